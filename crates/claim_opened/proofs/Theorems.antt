-- The claims about the counts.
-- Assumes nothing.
use Rattle.laws.proofs.Prelude.{ℕ, zero, suc, ◌<◌, ◌≡◌, refl, sym, ap, ◌∙◌, List, length, get_or, replicate, arith}
use Rattle.position.proofs.Rules.{never, start, journal_steps, step, open_steps}
use Rattle.position.specs.declared.Position.{Position}
use Rattle.step_laws.proofs.Wellformeds.{wellformed_start}
use Rattle.call_run.proofs.Calls.{call_fit}
use Rattle.dated.specs.Dated.{unseen, dated_start}
use Rattle.dated.proofs.Forgetting.{step_number_lem, step_position, forgotten_from, forgotten_run, dated_allowed}
use Rattle.claim_opened.specs.Claim.{CountsDecideNothing, ModelBesideCounts, FirstOpen, CountsStay}
use Rattle.claim_opened.proofs.Staying.{step_stays, row_stays}
use Rattle.claim_opened.proofs.Along.{row_least}

-- "this count, on which nothing a step decides may depend"
pub counts_decide_nothing : CountsDecideNothing
counts_decide_nothing s u d e h =
    record {
      numbers = λ b. step_number_lem s u d b ∙ ap (λ (p : Position). (step s u p b).refusal) h ∙ sym (step_number_lem s u e b);
      open_steps_lem = ap (open_steps s u) h;
      onwards = λ b. step_position s u d b ∙ ap (λ (p : Position). (step s u p b).position) h ∙ sym (step_position s u e b);
    }

-- "Demand 2's position is the model's beside this count"
pub model_beside_counts : ModelBesideCounts
model_beside_counts s u =
    record {
      numbers = step_number_lem s u;
      positions = step_position s u;
      rows = forgotten_from s u;
      journals = forgotten_run s u;
    }

-- nothing is seen before the first position
none_yet : (n i : ℕ) → get_or (replicate n never) i never ≡ never
none_yet zero i = refl
none_yet (suc n) zero = refl
none_yet (suc n) (suc i) = none_yet n i

-- "the count of blocks mined when it was first open"
pub first_open_lem : FirstOpen
unfolding dated_start unseen
first_open_lem s u j h t l =
    let k = (call_fit s u j h).checked in
    let fresh : List ℕ = replicate 32 never in
    let m : t < length fresh = omega (arith, l, k.sized.few) in
    let w = row_least s u k t l (journal_steps j) 0 (start s) fresh (wellformed_start s k) m (none_yet 32 t) in
    rw (dated_allowed s u j h) w

-- a count once set never changes
pub counts_stay : CountsStay
counts_stay s u t d h = record { steps = λ b. step_stays s u t d b h; rows = λ bs c. row_stays s u t bs c d h }
