-- The least lock height of a rival above the own one. The best of those below k.
use Rattle.slots.specs.Conflict.{conflict}
use Rattle.sheet.specs.LockHeight.{never, lock_height}
use Rattle.laws.proofs.Prelude.{least_below, ◌≤◌, ◌≡◌, ◌&&◌, ltb}
use Rattle.slots.proofs.deadline.deadline_among.Given as goal

abbrev pub invariant-loop-k : goal.invariant-loop-k
invariant-loop-k l =
    (l.best ≡ least_below l.k (λ j. conflict l.sheet.bytes j l.t && ltb l.own (lock_height l.sheet.bytes l.per_day (λ i. l.since) j)) (lock_height l.sheet.bytes l.per_day (λ i. l.since)) never) × (l.best ≤ never)
