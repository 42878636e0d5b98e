-- What P8 says of one sheet, for all of them: an empty journal leaves all statuses 0.
-- Assumes nothing.
use Rattle.std.specs.Prelude.{ℕ, zero, suc, ◌≡◌, refl, Bool, false, not, ◌&&◌, ◌||◌, List, eqb, ltb}
use Rattle.std.proofs.Common.{ap}
use Rattle.std.proofs.Math.Path.{fun_ext}
use Rattle.std.proofs.Math.Bool.{and-false}
use Rattle.laws.specs.Below.{any_below}
use Rattle.laws.specs.Climb.{climb_still}
use Rattle.sheet.specs.Field.{count, parent}
use Rattle.slots.specs.declared.Slot.{Slot}
use Rattle.slots.specs.Slot.{standing}
use Rattle.slots.specs.Conflict.{conflict, conflict_in, other_conflict_in}
use Rattle.slots.specs.Ancestry.{in_ancestry, meets_other}
use Rattle.slots.specs.Invalidated.{invalidated}
use Rattle.position.specs.Position.{start, in_pool, in_block, block_of, is_confirmed}
use Rattle.position.specs.Report.{status}
use Rattle.position.proofs.Starts.{start_slot}

none_confirmed : (s : List ℕ) → is_confirmed (start s) ≡ (λ k. false)
unfolding is_confirmed block_of
none_confirmed s = fun_ext (λ k. ap (λ (x : Slot). ltb 0 x.height) (start_slot s k))

none_below : (n : ℕ) (p : ℕ → Bool) → ((k : ℕ) → p k ≡ false) → any_below n p ≡ false
unfolding any_below
none_below zero p h = refl
none_below (suc n) p h = rw (none_below n p h, h n)

no_conflict_lem : (s : List ℕ) (t : ℕ) → other_conflict_in s (λ k. false) t ≡ false
unfolding other_conflict_in conflict_in
no_conflict_lem s t =
    none_below (count s) (λ k. conflict s k t && (not (eqb k t) && false)) (λ k. rw (and-false (not (eqb k t))) (and-false (conflict s k t)))

none_invalidated : (s : List ℕ) (t : ℕ) → invalidated s (λ k. false) t ≡ false
unfolding invalidated meets_other in_ancestry
none_invalidated s t = climb_still (parent s) (λ k above. other_conflict_in s (λ j. false) k || above) false (λ k. rw no_conflict_lem) t

-- P8, for every sheet
pub start_status : (s : List ℕ) (t : ℕ) → status s (start s) t ≡ 0
unfolding status in_pool in_block standing
start_status s t = rw (start_slot, none_confirmed, none_invalidated)
