-- A position compares with itself: up to a lower height X can count on as much.
-- Assumes nothing.
use Rattle.laws.proofs.Prelude.{ℕ, refl, List, arith, split, clash, bit}
use Rattle.position.proofs.Rules.{Checked}
use Rattle.position.specs.declared.Position.{Position}
use Rattle.attainable.proofs.Also.{attainable_also, elsewhere_also}
use Rattle.slack.specs.Beaten.{fixed}
use Rattle.slack.proofs.Onward.{Steady}
use Rattle.slack.proofs.Compared.{there, waits, Compared}
use Rattle.slack.proofs.Comparing.{steady_by}

module _ (s u : List ℕ) (ok : Checked s) (p : Position) (x most : ℕ) where
  compared_same : Compared s u p p x most
  compared_same =
      record {
        parents = λ t l. split (fixed s p t) (λ y. there y y refl) (λ y. waits y y (omega arith) (λ z. z));
        confirmed = λ t l h. h;
        pool_stays = λ t l h g. h;
        pool_locks = λ t r lt lr h e. e;
        waiting = λ more t r lt lr c m h. rw h;
        fewer = λ a b w. attainable_also s u ok p x (bit a) (bit b) w;
        fewer_elsewhere = λ a b w. elsewhere_also s u ok p x (bit a) (bit b) w;
        shares = λ t d i l m h. h;
        known_more = λ t l i m h. h;
        bounded = λ off t l h n y. clash y n;
      }

  pub steady_same : Steady s u p p x most
  steady_same = steady_by s u ok p p x most compared_same
