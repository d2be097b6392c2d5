-- The text from the first word on has no comments.
use Rattle.std.proofs.Common.{◌≡◌, ℕ, ◌+◌, ◌<◌, List, length, get_or, drop, sym, refl, arith}
use Rattle.std.proofs.lemmas.List.{drop_more}
use Rattle.std.proofs.lemmas.Bool.Decides.{nat_tests}
use Rattle.words.proofs.Spacing.{bare_body}
use Rattle.words.specs.Words.{Region, line_start, indented, comment, body, next, seen, bare}

seen_first : (r : Region) (b : ℕ) → next r b ≡ body → seen r b ≡ b
seen_first line_start b h = grind (arith, nat_tests)
seen_first indented b h = refl
seen_first comment b h = grind (arith, nat_tests)
seen_first body b h = refl

-- at the first byte of the first word
pub front_stop : (text : List ℕ) (i : ℕ) (r : Region) → i < length text → body ≡ next r (get_or text i 0)
    → bare r (drop i text) ≡ drop i text
front_stop text i r h is =
    rw (drop_more text i 0 h, seen_first r (get_or text i 0) (sym is), ← is, bare_body (drop (i + 1) text))
