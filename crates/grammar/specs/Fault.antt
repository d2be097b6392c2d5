-- The five rules, and which of them is broken by what stands behind a draft: on one word the lower number decides.
use Rattle.std.specs.Prelude.{ℕ, zero, suc, ◌+◌, Bool, false, cond, not, ◌&&◌, ◌||◌, List, [], ◌∷◌, length, Some, None, Option, ◌==◌, nat_le, nat_lt}
use Rattle.grammar.specs.declared.rule.Rule.{Rule}
use Rattle.grammar.specs.declared.rule.Rule.TheVariants.{Spelling, Header, Size, Binding, Tally}
use Rattle.grammar.specs.Draft.{Block, Draft, nothing, problem, format, sized, binding, matrix, level_in}
use Rattle.grammar.specs.Lawful.{Sizes, latest, literal_count}
use Rattle.grammar.specs.Next.{Next, size, is_end, is_p, is_cnf, is_letter, is_natural, is_number, is_literal}

-- the number under which a broken rule is reported
abbrev pub number : Rule → ℕ
number Spelling = 11
number Header = 12
number Size = 13
number Binding = 14
number Tally = 15

-- no word of a clause has come yet
abbrev pub unbegun : List (List ℕ) → List ℕ → Bool
unbegun Cs C = length Cs + length C == 0

-- some variable of 1 to v is bound by no block
abbrev pub unbound : List Block → ℕ → Bool
unbound bs zero = false
unbound bs (suc v) = level_in bs (suc v) == 0 || unbound bs v

-- 11: behind the header, a word that is no number, but for a letter before the clauses; in a block, a number below 0
abbrev pub breaks_spelling : Draft → Next → Bool
breaks_spelling nothing t = false
breaks_spelling problem t = false
breaks_spelling format t = false
breaks_spelling (sized n) t = false
breaks_spelling (binding n m bs b) t = not (is_end t || is_natural t)
breaks_spelling (matrix n m bs Cs C) t = not (is_end t || (is_number t || (is_letter t && unbegun Cs C)))

-- 12: the first words are not p, cnf and two numbers
abbrev pub breaks_header : Draft → Next → Bool
breaks_header nothing t = not (is_p t)
breaks_header problem t = not (is_cnf t)
breaks_header format t = not (is_number t)
breaks_header (sized n) t = not (is_number t)
breaks_header (binding n m bs b) t = false
breaks_header (matrix n m bs Cs C) t = false

-- a literal that stands in one of the m clauses
abbrev pub in_clause : ℕ → List (List ℕ) → Next → Bool
in_clause m Cs t = is_literal t && nat_lt (length Cs) m

-- 13: n outside 1 to 512; m above 2,048 or the end cells; a literal too many in its clause, in all, or for the cells
abbrev pub breaks_size : Sizes → Draft → Next → Bool
breaks_size S nothing t = false
breaks_size S problem t = false
breaks_size S format t = not (is_natural t && (nat_le 1 (size t) && nat_le (size t) 512))
breaks_size S (sized n) t = not (is_natural t && (nat_le (size t) 2048 && nat_le (size t) S.ends))
breaks_size S (binding n m bs b) t = false
breaks_size S (matrix n m bs Cs C) t =
    in_clause m Cs t && (nat_le 1024 (length C) || (nat_le 16384 (literal_count Cs C) || nat_le S.cells (literal_count Cs C)))

-- 14: in a block, a 0 before any variable, or a variable above n or bound already; a letter that repeats the quantifier before it;
-- a variable unbound at the first word behind the blocks, or at the end; a literal above n
abbrev pub breaks_binding : Draft → Next → Bool
breaks_binding nothing t = false
breaks_binding problem t = false
breaks_binding format t = false
breaks_binding (sized n) t = false
breaks_binding (binding n m bs b) t =
    is_natural t && cond (size t == 0) (length b.variables == 0) (nat_lt n (size t) || not (level_in (b ∷ bs) (size t) == 0))
breaks_binding (matrix n m bs Cs C) t =
    (unbegun Cs C && cond (is_letter t) (size t == latest bs) (unbound bs n)) || (in_clause m Cs t && nat_lt n (size t))

-- 15: the text ends in a block or a clause or before clause m has ended; a number behind clause m
abbrev pub breaks_tally : Draft → Next → Bool
breaks_tally nothing t = false
breaks_tally problem t = false
breaks_tally format t = false
breaks_tally (sized n) t = false
breaks_tally (binding n m bs b) t = is_end t
breaks_tally (matrix n m bs Cs C) t = cond (is_end t) (not (length Cs == m && length C == 0)) (is_number t && nat_le m (length Cs))

-- the first of the rules that is broken
abbrev pub first : List (Bool × Rule) → Option Rule
first [] = None
first (r ∷ rs) = cond r.0 (Some r.1) (first rs)

-- the rule that is broken by t behind the draft d, or None where t may stand there
abbrev pub fault : Sizes → Draft → Next → Option Rule
fault S d t =
    first
    ((breaks_spelling d t, Spelling) ∷
    (breaks_header d t, Header) ∷
    (breaks_size S d t, Size) ∷
    (breaks_binding d t, Binding) ∷
    (breaks_tally d t, Tally) ∷ [])
