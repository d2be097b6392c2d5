-- What is promised of every list of calls is kept.
use Rattle.std.proofs.Common.{◌≡◌, true, List, length, sym, ap, ◌∙◌, subst, ap₂}
use Rattle.calculus.specs.Meaning.{Meaning, Formed}
use Rattle.calculus.specs.Sets.{◌∈◌}
use Rattle.laws.specs.Runs.{Call, Reply, verdict, granted_claims, run}
use Rattle.laws.specs.Store.{Store, Closed}
use Rattle.laws.specs.Verdicts.{StateRight}
use Rattle.laws.proofs.Replies.{one_outcome}
use Rattle.case.specs.Claimed.{After}
use Rattle.case.specs.Promise.{Promise}
use Rattle.case.specs.Standing.{Standing}
use Rattle.case.proofs.Refuting.{ends_refuted_is}
use Rattle.case.proofs.Verdicts.{run_right, refuted_is, said_false}

pub keeps_promise :
    (S : Store) (m : Meaning) → Formed m → (calls : List Call) (s : Standing) → s.formula ≡ m → s.shelf.store ≡ S → After calls s →
    (replies : List Reply) → replies ≡ (run S m calls).replies → Promise S m calls replies s
keeps_promise S m formed calls s formula store h replies replied = record {
  answered = (one_outcome S m calls replies s.shelf.kept).1 (replied, stands);
  exactly = refuted_is calls s h;
  false_then = λ e. right.refuted (subst Closed stands ((refuted_is calls s h).0 e));
  false_said = λ k i. said_false S m formed calls k (subst (λ rs. verdict true k ∈ rs) replied i);
  counted = ap granted_claims replied ∙ (right.counted ∙ ap length (sym stands));
  derived = λ C i. right.derived C (subst (λ Cs. C ∈ Cs) stands i);
  complete = ends_refuted_is S m formed;
}
  where
    stands : s.shelf.kept ≡ (run S m calls).kept
    stands = h.kept ∙ ap₂ (λ S' m'. (run S' m' calls).kept) store formula

    right : StateRight m (run S m calls)
    right = run_right S m formed calls
