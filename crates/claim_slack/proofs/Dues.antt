-- A deadline that is met by m blocks, in two chains: the parent's block is the same, or the one has none and the other's is after m.
-- Assumes nothing.
use Rattle.laws.proofs.Prelude.{ℕ, ◌+◌, ◌≤◌, ◌<◌, ◌≡◌, sym, ap, ◌∙◌, true, List, ◌⊎◌, inl, inr, ltb, ltb-true, ltb-false, arith, split, either}
use Rattle.position.proofs.Rules.{count, parent, opening, lock_height, never, Checked, conflict, deadline}
use Rattle.slots.proofs.Conflicts.{conflict_self, conflict_opening}
use Rattle.soonest.specs.Soonest.{lock_at}
use Rattle.soonest.proofs.Locks.{lock_is_lem, rival_lock, lock_opening, lock_after, lock_reached}
use Rattle.soonest.proofs.Deadlines.{deadline_le, deadline_from}

module _ {s : List ℕ} (ok : Checked s) (per_day : ℕ) (day : 0 < per_day) (m : ℕ) (low : m < never) (t : ℕ) (l : t < count s) where
  -- t's parent in the two chains
  abbrev pub Onto : (ℕ → ℕ) → (ℕ → ℕ) → Type 0
  Onto a b = (opening s t ≡ true) ⊎ ((b (parent s t) ≡ a (parent s t)) ⊎ ((a (parent s t) ≡ 0) × (m < b (parent s t))))

  -- a rival's lock height that is at most m in one of them is the other's too
  same : (a b : ℕ → ℕ) → Onto a b → (k : ℕ) → k < count s → conflict s k t ≡ true → (lock_height s per_day a k ≤ m) ⊎ (lock_height s per_day b k ≤ m)
      → lock_height s per_day b k ≡ lock_height s per_day a k
  same a b (inl o) k lk c h =
      let z : opening s k ≡ true = rw (conflict_opening s k t o c) o in
      lock_is_lem s per_day b k ∙ lock_opening ok per_day k lk z (b (parent s k)) (a (parent s k)) ∙ sym (lock_is_lem s per_day a k)
  same a b (inr (inl e)) k lk c h = rival_lock s per_day b t k c ∙ ap (λ n. lock_at s per_day n k) e ∙ sym (rival_lock s per_day a t k c)
  same a b (inr (inr w)) k lk c h =
      let n = b (parent s t) in
      let k0 : lock_height s per_day a k ≡ lock_at s per_day 0 k = rival_lock s per_day a t k c ∙ ap (λ n. lock_at s per_day n k) w.0 in
      let k1 : lock_height s per_day b k ≡ lock_at s per_day n k = rival_lock s per_day b t k c in
      either h
      (λ y. k1 ∙ lock_reached ok per_day k lk n (omega (arith, k0, y, low)) ∙ sym k0)
      (λ y.
      either (lock_after ok per_day k day lk n (omega (arith, w.1)))
      (λ z. k1 ∙ z ∙ sym k0)
      (λ z. absurd (omega (arith, k1, z, y, w.1))))

  carry : (a b : ℕ → ℕ) → ((k : ℕ) → k < count s → conflict s k t ≡ true → lock_height s per_day b k ≤ m → lock_height s per_day a k ≡ lock_height s per_day b k)
      → m < deadline s per_day a t → m < deadline s per_day b t
  carry a b is h =
      let from =
      deadline_from s per_day b t (m + 1) (omega (arith, low))
      (λ k lk c f.
      split (ltb m (lock_height s per_day b k))
      (λ y. omega (arith, ltb-true m (lock_height s per_day b k) y))
      (λ y.
      let no_later = ltb-false m (lock_height s per_day b k) y in
      let his = is k lk c no_later in
      let own = is t l (conflict_self s t) (omega (arith, f, no_later)) in
      let due = deadline_le s per_day a t k lk c (omega (arith, his, own, f)) in
      absurd (omega (arith, due, his, no_later, h)))) in
      omega (arith, from)

  pub due_after : (a b : ℕ → ℕ) → Onto a b → m < deadline s per_day a t → m < deadline s per_day b t
  due_after a b w = carry a b (λ k lk c h. sym (same a b w k lk c (inr h)))

  pub due_before_lem : (a b : ℕ → ℕ) → Onto a b → m < deadline s per_day b t → m < deadline s per_day a t
  due_before_lem a b w = carry b a (λ k lk c h. same a b w k lk c (inl h))
