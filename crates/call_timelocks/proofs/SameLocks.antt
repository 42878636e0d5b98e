-- For each type of lock, Bitcoin's rule and the sheet's lock height say the same.
-- Assumes nothing.
use Rattle.laws.proofs.Prelude.{ℕ, ◌+◌, ◌-◌, ◌≤◌, ◌<◌, ◌≡◌, sym, ◌∙◌, true, false, ◌||◌, List, eqb, ltb, leb, leb-true, leb-false, ne_eqb, lt-ltb, le-ltb, le-leb, lt-leb}
use Rattle.laws.proofs.Prelude.{arith, or-true, split, clash}
use Rattle.sheet.specs.Field.{lock_type, parent, opening}
use Rattle.sheet.specs.LockHeight.{lock_blocks, since_parent, lock_height, never}
use Rattle.sheet.specs.Checked.{LockPair, none, absolute, since}
use Rattle.call_timelocks.specs.Bitcoin.{Block, admitted}
use Rattle.call_timelocks.specs.Fields.{n_lock_time, n_sequence}
use Rattle.call_timelocks.specs.Limits.{relative_right, absolute_right}
use Rattle.call_timelocks.specs.Claim.{boxed, fields_of, real, SameLock}
use Rattle.call_timelocks.proofs.Within.{relative_within, absolute_within}
use Rattle.call_timelocks.proofs.Admitted.{none_admitted, absolute_admitted, since_admitted}

-- v blocks from the base on are passed before block b
absolute_same : (base v b : ℕ) → 1 ≤ b → (eqb (base + v) 0 || ltb (base + v) (base + b)) ≡ leb v (b - 1)
absolute_same base v b h =
    split (leb v (b - 1))
    (λ y.
    let l : v ≤ b - 1 = leb-true v (b - 1) y in
    rw (y, lt-ltb (base + v) (base + b) (omega arith)) (or-true (eqb (base + v) 0)))
    (λ y.
    let l : b - 1 < v = leb-false v (b - 1) y in
    rw (y, ne_eqb (base + v) 0 (λ z. omega (arith, z)), le-ltb (base + v) (base + b) (omega arith)))

-- v + 1 blocks after the parent's, and one block later than v after it
since_same : (base p v b : ℕ) → 1 ≤ b → leb (base + p + (v + 1)) (base + b) ≡ leb (p + v) (b - 1)
since_same base p v b h =
    split (leb (p + v) (b - 1))
    (λ y.
    let l : p + v ≤ b - 1 = leb-true (p + v) (b - 1) y in
    rw (y, le-leb (base + p + (v + 1)) (base + b) (omega arith)))
    (λ y.
    let l : b - 1 < p + v = leb-false (p + v) (b - 1) y in
    rw (y, lt-leb (base + p + (v + 1)) (base + b) (omega arith)))

module _ (s : List ℕ) (d base t : ℕ) where
  -- the two numbers and the lock height, by the type of lock
  module _ (e : lock_type s t ≡ 0) where
    fields_none : fields_of s d base t ≡ boxed 0 4294967295
    unfolding n_lock_time n_sequence
    fields_none = rw e

    height_none : (block : ℕ → ℕ) → lock_height s d block t ≡ 0
    unfolding lock_height
    height_none block = rw e

  module _ (e : lock_type s t ≡ 1) where
    pub fields_absolute : fields_of s d base t ≡ boxed (base + lock_blocks s d t) 4294967294
    unfolding n_lock_time n_sequence
    fields_absolute = rw e

    pub height_absolute : (block : ℕ → ℕ) → lock_height s d block t ≡ lock_blocks s d t
    unfolding lock_height
    height_absolute block = rw e

  module _ (e : lock_type s t ≡ 2) where
    pub fields_since : fields_of s d base t ≡ boxed 0 (lock_blocks s d t + 1)
    unfolding n_lock_time n_sequence
    fields_since = rw e

    pub height_since : (block : ℕ → ℕ) (p : ℕ) → 1 ≤ p → block (parent s t) ≡ p → lock_height s d block t ≡ p + lock_blocks s d t
    unfolding lock_height since_parent
    height_since block p h b = rw (e, b, ne_eqb p 0 (λ z. omega (arith, z)))

    height_waiting : (block : ℕ → ℕ) → block (parent s t) ≡ 0 → lock_height s d block t ≡ never
    unfolding lock_height since_parent
    height_waiting block b = rw (e, b)

  -- no lock, and an absolute one: wherever the input stands
  none_at : lock_type s t ≡ 0 → (block : ℕ → ℕ) (b at : ℕ) (from : Block) → admitted (fields_of s d base t) from (real base b at) ≡ leb (lock_height s d block t) (b - 1)
  none_at e block b at from =
      rw (fields_none e, none_admitted from (real base b at), height_none e block) (sym (le-leb 0 (b - 1) (omega arith)))

  absolute_at : absolute_right s d base t ≡ true → lock_type s t ≡ 1 → (block : ℕ → ℕ) (b at : ℕ) (from : Block) → 1 ≤ b
      → admitted (fields_of s d base t) from (real base b at) ≡ leb (lock_height s d block t) (b - 1)
  absolute_at w e block b at from h =
      rw (fields_absolute e, absolute_admitted from (real base b at) (base + lock_blocks s d t) (absolute_within s d base t w e), height_absolute e block)
      (absolute_same base (lock_blocks s d t) b h)

  since_locked_lem : relative_right s d t ≡ true → lock_type s t ≡ 2 → opening s t ≡ false → SameLock s d base t (fields_of s d base t)
  since_locked_lem w e c =
      let l = relative_within s d t w e in
      record {
        admits = λ block p b from at h k o.
            rw (fields_since e, since_admitted (real base p from) (real base b at) (lock_blocks s d t + 1) l, height_since e block p h (o c))
            (since_same base p (lock_blocks s d t) b (omega arith));
        admits_beside = λ block b from at h k o.
            rw (fields_since e, since_admitted (real base b from) (real base b at) (lock_blocks s d t + 1) l, height_waiting e block (o c))
            (lt-leb (base + b + (lock_blocks s d t + 1)) (base + b) (omega arith) ∙ sym (lt-leb never (b - 1) (omega arith)));
        admits_opening = λ y block b at from h. clash y c;
      }

  -- a lock pair in range, whose number is within its limit
  pub locks_same : LockPair s t → relative_right s d t ≡ true → absolute_right s d base t ≡ true
      → SameLock s d base t (fields_of s d base t)
  locks_same (none e z) r a =
      record {
        admits = λ block p b from at h k o. none_at e block b at (real base p from);
        admits_beside = λ block b from at h k o. none_at e block b at (real base b from);
        admits_opening = λ y block b at from h. none_at e block b at from;
      }
  locks_same (absolute e l m) r a =
      record {
        admits = λ block p b from at h k o. absolute_at a e block b at (real base p from) (omega arith);
        admits_beside = λ block b from at h k o. absolute_at a e block b at (real base b from) h;
        admits_opening = λ y block b at from h. absolute_at a e block b at from h;
      }
  locks_same (since e l m c) r a = since_locked_lem r e c

  -- both numbers have four bytes
  pub fields_small : LockPair s t → relative_right s d t ≡ true → absolute_right s d base t ≡ true
      → (n_lock_time s d base t < 4294967296) × (n_sequence s d t < 4294967296)
  unfolding n_lock_time n_sequence
  fields_small (none e z) r a = rw e (omega arith, omega arith)
  fields_small (absolute e l m) r a = let w = absolute_within s d base t a e in rw e (omega arith, omega arith)
  fields_small (since e l m c) r a = let w = relative_within s d t r e in rw e (omega arith, omega arith)
