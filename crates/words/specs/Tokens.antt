-- What a word of a formula text says.
use Rattle.std.specs.Prelude.{ℕ, ◌+◌, ◌-◌, ◌*◌, Bool, cond, ◌&&◌, ◌||◌, List, [], ◌∷◌, length, drop, Some, None, Option, ◌==◌, nat_le, nat_lt, slice_index}
use Rattle.words.specs.declared.token.Token.{Token}
use Rattle.words.specs.declared.token.Token.TheVariants.{Problem, Cnf, Exists, Forall, Number, Negative, Other}

abbrev pub digit : ℕ → Bool
digit b = nat_le 48 b && nat_le b 57

-- the value of digits that follow the value v; None where a byte is no digit
abbrev pub digits_after : ℕ → List ℕ → Option ℕ
digits_after v [] = Some v
digits_after v (b ∷ bs) = cond (digit b) (digits_after (v * 10 + (b - 48)) bs) None

-- one to five digits, without a leading zero
abbrev pub natural : List ℕ → Option ℕ
natural w =
    cond ((length w == 0 || nat_lt 5 (length w)) || (nat_lt 1 (length w) && slice_index w 0 == 48)) None (digits_after 0 w)

-- the words p, cnf, e and a
abbrev pub name : List ℕ → Token
name [] = Other
name (b ∷ []) = cond (b == 112) Problem (cond (b == 101) Exists (cond (b == 97) Forall Other))
name (b ∷ d ∷ []) = Other
name (b ∷ d ∷ f ∷ []) = cond (b == 99 && (d == 110 && f == 102)) Cnf Other
name (b ∷ d ∷ f ∷ x ∷ xs) = Other

-- a number below zero; there is no -0
abbrev pub negated : Option ℕ → Token
negated None = Other
negated (Some k) = cond (k == 0) Other (Negative k)

-- a number, or what the word w says otherwise
abbrev pub counted : List ℕ → Option ℕ → Token
counted w None = name w
counted w (Some k) = Number k

-- what a word says
abbrev pub token_of : List ℕ → Token
token_of w = cond (slice_index w 0 == 45) (negated (natural (drop 1 w))) (counted w (natural w))
