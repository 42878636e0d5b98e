-- A deadline is at most never and each rival's lock height above one's own, and no lower than all of these.
-- Assumes nothing.
use Rattle.laws.proofs.Prelude.{ℕ, ◌≤◌, ◌<◌, ◌≡◌, true, ◌&&◌, List, ltb, ltb-true, lt-ltb, and_parts, least_top, least_le, least_from}
use Rattle.position.proofs.Rules.{count, lock_height, never, conflict, deadline}

module _ (s : List ℕ) (per_day : ℕ) (block : ℕ → ℕ) (t : ℕ) where
  pub deadline_top : deadline s per_day block t ≤ never
  unfolding deadline
  deadline_top =
      least_top (λ k. conflict s k t && ltb (lock_height s per_day block t) (lock_height s per_day block k)) (lock_height s per_day block) never (count s)

  pub deadline_le : (k : ℕ) → k < count s → conflict s k t ≡ true → lock_height s per_day block t < lock_height s per_day block k
      → deadline s per_day block t ≤ lock_height s per_day block k
  unfolding deadline
  deadline_le k l c h =
      least_le (λ k. conflict s k t && ltb (lock_height s per_day block t) (lock_height s per_day block k)) (lock_height s per_day block) never (count s) k l
      (rw (c, lt-ltb (lock_height s per_day block t) (lock_height s per_day block k) h))

  pub deadline_from : (x : ℕ) → x ≤ never
      → ((k : ℕ) → k < count s → conflict s k t ≡ true → lock_height s per_day block t < lock_height s per_day block k → x ≤ lock_height s per_day block k)
      → x ≤ deadline s per_day block t
  unfolding deadline
  deadline_from x h g =
      least_from (λ k. conflict s k t && ltb (lock_height s per_day block t) (lock_height s per_day block k)) (lock_height s per_day block) never x (count s) h
      (λ k l y.
      let w = and_parts (conflict s k t) (ltb (lock_height s per_day block t) (lock_height s per_day block k)) y in
      g k l w.0 (ltb-true (lock_height s per_day block t) (lock_height s per_day block k) w.1))
