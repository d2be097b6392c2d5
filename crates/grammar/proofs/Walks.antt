-- The draft that words come to, one by one: the words of a lawful draft break no rule on the way, and come to that draft.
use Rattle.std.proofs.Common.{◌≡◌, ℕ, zero, suc, ◌+◌, ◌≤◌, List, [], ◌∷◌, ◌++◌, length, Some, None, sym, refl, ap, ◌∙◌, subst, ⊎_elim, arith}
use Rattle.std.proofs.lemmas.List.{length_push}
use Rattle.words.specs.declared.token.Token.{Token}
use Rattle.grammar.specs.Draft.{Draft, nothing, spell}
use Rattle.grammar.specs.Lawful.{Sizes, Lawful}
use Rattle.grammar.specs.Next.{after}
use Rattle.grammar.specs.Fault.{fault}
use Rattle.grammar.specs.Theorems.{WordsThatFollow}
use Rattle.grammar.proofs.Steps.{step}
use Rattle.grammar.proofs.Lasts.{Last, last}

-- the draft d with the words ts behind it
abbrev pub walk : Draft → List Token → Draft
walk d [] = d
walk d (t ∷ ts) = walk (after d (Some t)) ts

-- none of the words ts behind the draft d breaks a rule
abbrev pub Walks : Sizes → Draft → List Token → Type 0
Walks S d [] = Unit {0}
Walks S d (t ∷ ts) = (fault S d (Some t) ≡ None) × Walks S (after d (Some t)) ts

pub walk_append : (d : Draft) (ts us : List Token) → walk d (ts ++ us) ≡ walk (walk d ts) us
walk_append d [] us = refl
walk_append d (t ∷ ts) us = walk_append (after d (Some t)) ts us

pub walks_append : (S : Sizes) (d : Draft) (ts us : List Token) → Walks S d ts → Walks S (walk d ts) us → Walks S d (ts ++ us)
walks_append S d [] us h k = k
walks_append S d (t ∷ ts) us h k = (h.0, walks_append S (after d (Some t)) ts us h.1 k)

pub walks_behind : (S : Sizes) (d : Draft) (ts us : List Token) → Walks S d (ts ++ us) → Walks S (walk d ts) us
walks_behind S d [] us h = h
walks_behind S d (t ∷ ts) us h = walks_behind S (after d (Some t)) ts us h.1

-- words come to the draft e
abbrev pub Reaches : Sizes → List Token → Draft → Type 0
Reaches S ts e = Walks S nothing ts × (walk nothing ts ≡ e)

-- one word more
reach_more : (S : Sizes) (ts : List Token) (d : Draft) (t : Token) → Reaches S ts d → fault S d (Some t) ≡ None → Reaches S (ts ++ (t ∷ [])) (after d (Some t))
reach_more S ts d t r f = (
  walks_append S nothing ts (t ∷ []) r.0 (rw r.1 f, tt),
  walk_append nothing ts (t ∷ []) ∙ ap (λ x. after x (Some t)) r.1,
)

start_reached : (S : Sizes) (e : Draft) → e ≡ nothing → Reaches S (spell e) e
start_reached S e z = subst (λ x. Reaches S (spell x) x) (sym z) (tt, refl)

last_spelled : (S : Sizes) (e : Draft) (b : Last S e) → spell e ≡ spell b.draft ++ (b.word ∷ [])
last_spelled S e b = ap spell (sym b.makes) ∙ (step S b.draft b.word b.lawful b.follows).1

last_longer : (S : Sizes) (e : Draft) (b : Last S e) → length (spell e) ≡ length (spell b.draft) + 1
last_longer S e b = ap length (last_spelled S e b) ∙ length_push (spell b.draft) b.word

reached_by : (S : Sizes) (k : ℕ) (e : Draft) → Lawful S e → length (spell e) ≤ k → Reaches S (spell e) e
reached_by S zero e h l = ⊎_elim (start_reached S e) (λ b. absurd (omega (arith, l, last_longer S e b))) (last S e h)
reached_by S (suc k) e h l = ⊎_elim (start_reached S e)
    (λ b. let r = reached_by S k b.draft b.lawful (omega (arith, l, last_longer S e b)) in
    subst (λ ts. Reaches S ts e) (sym (last_spelled S e b))
    (subst (Reaches S (spell b.draft ++ (b.word ∷ []))) b.makes (reach_more S (spell b.draft) b.draft b.word r b.follows)))
    (last S e h)

-- the words of a lawful draft come to it
pub reached : (S : Sizes) (e : Draft) → Lawful S e → Reaches S (spell e) e
reached S e h = reached_by S (length (spell e)) e h (omega arith)

-- a lawful draft is known from its words
pub same_draft : (S : Sizes) (d e : Draft) → Lawful S d → Lawful S e → spell d ≡ spell e → d ≡ e
same_draft S d e h k same = sym (reached S d h).1 ∙ ap (walk nothing) same ∙ (reached S e k).1

-- where a lawful draft's words go on as another lawful draft's, the next of them breaks no rule
pub words_behind : (S : Sizes) (d e : Draft) (t : Token) (ts : List Token) → Lawful S d → Lawful S e → spell e ≡ spell d ++ (t ∷ ts) → fault S d (Some t) ≡ None
words_behind S d e t ts h k same =
    subst (λ x. fault S x (Some t) ≡ None) (reached S d h).1
    (walks_behind S nothing (spell d) (t ∷ ts) (subst (Walks S nothing) same (reached S e k).0)).0

pub words_that_follow : WordsThatFollow
words_that_follow S d t h = (
  (λ f. (after d (Some t), (step S d t h f).0, (step S d t h f).1)),
  (λ e. words_behind S d e.0 t [] h e.1 e.2),
)
