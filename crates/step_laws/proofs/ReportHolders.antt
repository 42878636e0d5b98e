-- Holders read from a report are those read from the position.
-- Assumes nothing.
use Rattle.laws.proofs.Prelude.{ℕ, ◌≡◌, List}
use Rattle.position.proofs.Rules.{is_confirmed, reported_payee, reported_holder, payee, report_bytes, holder_in}
use Rattle.position.specs.declared.Position.{Position}
use Rattle.readings.specs.Reported.{reported_confirmed}
use Rattle.readings.proofs.Holders.{holder_same}
use Rattle.step_laws.proofs.Reports.{payee_read, confirmed_read}

pub reported_holder_lem : (s u : List ℕ) (p : Position) (counts : List ℕ) (coin : ℕ) → reported_holder s (report_bytes s u p counts) coin ≡ holder_in s p coin
unfolding reported_holder holder_in
reported_holder_lem s u p counts coin =
    holder_same s (reported_confirmed (report_bytes s u p counts)) (is_confirmed p) (reported_payee (report_bytes s u p counts)) (payee p) (confirmed_read s u p counts) (payee_read s u p counts) coin
