-- What stands behind a draft: a word, or the end of the text, which is None.
use Rattle.std.specs.Prelude.{ℕ, ◌+◌, ◌*◌, Bool, cond, not, ◌&&◌, ◌||◌, [], ◌∷◌, Some, None, Option, ◌==◌}
use Rattle.words.specs.declared.token.Token.{Token}
use Rattle.words.specs.declared.token.Token.TheVariants.{Problem, Cnf, Exists, Forall, Number, Negative, Other}
use Rattle.grammar.specs.Draft.{Block, Draft, nothing, problem, format, sized, binding, matrix}

abbrev pub Next : Type 0
Next = Option Token

-- the sort of what stands next: 0 the end, 1 p, 2 cnf, 3 a letter e or a, 4 a number from 0, 5 a number below 0, 6 any other word
abbrev pub sort : Next → ℕ
sort None = 0
sort (Some Problem) = 1
sort (Some Cnf) = 2
sort (Some Exists) = 3
sort (Some Forall) = 3
sort (Some (Number k)) = 4
sort (Some (Negative k)) = cond (k == 0) 6 5
sort (Some Other) = 6

-- the number without its sign, or the quantifier of a letter: 1 for e, 2 for a
abbrev pub size : Next → ℕ
size None = 0
size (Some Problem) = 0
size (Some Cnf) = 0
size (Some Exists) = 1
size (Some Forall) = 2
size (Some (Number k)) = k
size (Some (Negative k)) = k
size (Some Other) = 0

abbrev pub is_end : Next → Bool
is_end t = sort t == 0

abbrev pub is_p : Next → Bool
is_p t = sort t == 1

abbrev pub is_cnf : Next → Bool
is_cnf t = sort t == 2

-- e or a
abbrev pub is_letter : Next → Bool
is_letter t = sort t == 3

-- a number without a minus
abbrev pub is_natural : Next → Bool
is_natural t = sort t == 4

abbrev pub is_number : Next → Bool
is_number t = sort t == 4 || sort t == 5

-- 0, which ends a block or a clause
abbrev pub is_zero : Next → Bool
is_zero t = is_natural t && size t == 0

-- any other number, which stands for a literal
abbrev pub is_literal : Next → Bool
is_literal t = is_number t && not (size t == 0)

-- the code of the literal that a number stands for
abbrev pub code_of : Next → ℕ
code_of t = cond (is_natural t) (2 * size t) (2 * size t + 1)

-- the block with one variable more
abbrev pub with_variable : ℕ → Block → Block
with_variable v b = record { quantifier = b.quantifier; variables = v ∷ b.variables }

-- the draft with one word more, where the word may follow
abbrev pub after : Draft → Next → Draft
after nothing t = problem
after problem t = format
after format t = sized (size t)
after (sized n) t = matrix n (size t) [] [] []
after (binding n m bs b) t = cond (is_zero t) (matrix n m (b ∷ bs) [] []) (binding n m bs (with_variable (size t) b))
after (matrix n m bs Cs C) t =
    cond (is_letter t) (binding n m bs (record { quantifier = size t; variables = [] }))
    (cond (is_zero t) (matrix n m bs (C ∷ Cs) []) (matrix n m bs Cs (code_of t ∷ C)))
