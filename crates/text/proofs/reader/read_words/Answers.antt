use Rattle.std.proofs.Common.{rules, tests, length, ◌≡◌, ℕ, true, List, Ok, Err, Result, MatchResult, is_ok, IsErrAnd, sym, refl, ap, ◌∙◌, subst, arith}
use Rattle.words.specs.Rest.{rest}
use Rattle.grammar.specs.declared.rule.TextFault.{TextFault}
use Rattle.grammar.proofs.Outcomes.{meaning_of}
use Rattle.reading.proofs.Starting.{fresh_stands}
use Rattle.grammar.specs.Outcome.{Faults}
use Rattle.reading.specs.Stands.{sizes}
use Rattle.text.specs.declared.outline.Outline.{Outline}
use Rattle.text.specs.Going.{CameTo}
use Rattle.text.proofs.Reading.{starts, goes_on, holds, reads, stops, no_fault, some_fault}
use Rattle.text.proofs.reader.read_words.Goals as goal

-- a mapped error is made of the error that it was
was_ok : {E : Type 0} (r : Result (Unit {0}) E) → true ≡ is_ok r → r ≡ Ok tt
was_ok (Ok tt) e = refl
was_ok (Err x) e = absurd (let z : ◌≡◌ {A = ℕ} 0 1 = cc in omega arith)

was_err : {E D : Type 0} {P : E → Type 0} (Q : E → Type 0) (f : D) (r : Result (Unit {0}) E) →
    MatchResult r (λ x. ◌≡◌ {A = Result (Unit {0}) D} (Err f) (Ok x)) P → ((e : E) → P e → Q e) → (e : E) × (r ≡ Err e) × Q e
was_err Q f (Ok x) h q = absurd (let z : ◌≡◌ {A = ℕ} 0 1 = cc in omega arith)
was_err Q f (Err e) h q = (e, refl, q e h)

faulted : (text ls es : List ℕ) (r : Result Outline TextFault) (f : TextFault) → IsErrAnd r (λ g. g ≡ f) → Faults (sizes ls es) text f.rule f.byte → CameTo text r ls es
faulted text ls es (Ok o) f e h = absurd e
faulted text ls es (Err g) f e h = subst (λ g. Faults (sizes ls es) text g.rule g.byte) (sym e) h

pub loop-word-init : goal.loop-word-init
loop-word-init c =
    starts c.args.text.now (rest c.into_iter-word-iterator.result) c.new-state.result c.args.literals.now c.args.ends.now
    (ap rest c.into_iter-word-iterator.ensures.into_iter_gives ∙ c.new-word-items.ensures.words)
    (fresh_stands c.new-state.result c.args.literals.now c.args.ends.now c.new-state.ensures c.requires.no_codes c.requires.no_counts)

pub loop-word-preserved : goal.loop-word-preserved
loop-word-preserved c =
    let g = c.loop-word.invariant in
    let stepped = rw (was_ok c.step.result c.in_ok-map_err.ensures.variant) at (c.step.ensures g.draft g.lawful g.stands) in
    goes_on c.args.text.now (rest c.loop-word.word-iterator) (rest c.next.new.self) c.loop-word.state c.step.new.self c.loop-word.literals
    c.loop-word.ends c.step.new.cells c.step.new.ends c.in-Some.word g c.in-Some.ensures.steps.0 (omega arith) (omega arith) stepped.0
    stepped.1

pub returns-in_err-map_err-2 : goal.returns-in_err-map_err-2
returns-in_err-map_err-2 c =
    let g = c.loop-word.invariant in
    let text = c.args.text.now in
    let s = c.loop-word.state in
    let ls = c.loop-word.literals in
    let es = c.loop-word.ends in
    let fault = c.in_err-map_err-2.field-0.0 in
    let e = was_err (λ e. fault ≡ record { rule = e; byte = length text }) fault c.finish.result c.in_err-map_err-2.ensures.cases (λ e h. search (rules, tests)) in
    let ended = some_fault _ e.0 (sym e.1 ∙ c.finish.ensures g.draft ls es g.stands) in
    faulted text ls es c.from_residual-in_err-map_err-2.result fault c.from_residual-in_err-map_err-2.ensures.1
    (stops text (rest c.loop-word.word-iterator) s ls es g c.in-None.ensures.steps.0.0 e.0 ended fault e.2)

pub invariant_of-result : goal.invariant_of-result
invariant_of-result c =
    let g = c.loop-word.invariant in
    let text = c.args.text.now in
    let s = c.loop-word.state in
    let ls = c.loop-word.literals in
    let es = c.loop-word.ends in
    let f = no_fault _ tt (sym (was_ok c.finish.result c.in_ok-map_err-2.ensures.variant) ∙ c.finish.ensures g.draft ls es g.stands) in
    let h = holds text s ls es g.draft g.lawful g.stands f (reads text (rest c.loop-word.word-iterator) s ls es g c.in-None.ensures.steps.0.0 f) in
    record { few = s.few; bound = ∣ h.prefix ∣₁ }

pub returns : goal.returns
returns c =
    let g = c.loop-word.invariant in
    let text = c.args.text.now in
    let s = c.loop-word.state in
    let ls = c.loop-word.literals in
    let es = c.loop-word.ends in
    let f = no_fault _ tt (sym (was_ok c.finish.result c.in_ok-map_err-2.ensures.variant) ∙ c.finish.ensures g.draft ls es g.stands) in
    let r = reads text (rest c.loop-word.word-iterator) s ls es g c.in-None.ensures.steps.0.0 f in
    let h = holds text s ls es g.draft g.lawful g.stands f r in
    record {
      formula = meaning_of g.draft;
      reads = r;
      held = h.held;
      codes = h.codes;
      counts = h.counts;
    }
