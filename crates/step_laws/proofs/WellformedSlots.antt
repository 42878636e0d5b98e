-- Each change of a slot leads from a well-formed one to a well-formed one.
-- Assumes nothing.
use Rattle.laws.proofs.Prelude.{ℕ, ◌^◌, ◌≤◌, ◌<◌, ◌≡◌, refl, sym, ◌∙◌, Bool, true, List, eqb, lt-ltb, arith, bit_or, or_lt, pick}
use Rattle.position.proofs.Rules.{signatures, Slot, alice, bob, carol, contract, destinations, empty_slot, standing, with_pool, with_block, with_confirmed, shared_for}
use Rattle.position.proofs.Rules.{with_shared, marks_of, with_mark}
use lib.Pow.{pow_pos, pow-lt}
use Rattle.laws.specs.Cases.{picked_has}
use Rattle.step_laws.specs.Wellformed.{WellformedSlot}

-- a mask of n bits
abbrev pub MaskOf : ℕ → ℕ → Type 0
MaskOf n mask = mask < 2 ^ n

-- one that grows where a test holds
pub grown : (n : ℕ) (b : Bool) (x m : ℕ) → MaskOf n x → MaskOf n m → MaskOf n (pick b (bit_or x m) x)
grown n b x m h k = picked_has (MaskOf n) b (or_lt n x m h k) h

module _ (s : List ℕ) (mined : ℕ) where
  abbrev Well : Slot → Type 0
  Well x = WellformedSlot s mined x

  -- a transaction to which nothing has happened
  pub well_empty : Well empty_slot
  unfolding standing shared_for marks_of
  well_empty =
      record {
        pool = omega arith;
        block = omega arith;
        confirmed = omega arith;
        numbered = refl;
        height = omega arith;
        shared = λ e. picked_has (MaskOf (signatures s)) (eqb e alice) (pow_pos (signatures s))
            (picked_has (MaskOf (signatures s)) (eqb e bob) (pow_pos (signatures s))
            (picked_has (MaskOf (signatures s)) (eqb e contract) (pow_pos (signatures s)) (pow_pos (signatures s))));
        marks = λ party. picked_has (MaskOf destinations) (eqb party alice) (pow_pos destinations)
            (picked_has (MaskOf destinations) (eqb party bob) (pow_pos destinations)
            (picked_has (MaskOf destinations) (eqb party carol) (pow_pos destinations) (pow_pos destinations)));
      }

  -- each part changed alone, within its range
  module _ {x : Slot} (w : Well x) where
    pub well_pool : {entry : ℕ} → entry ≤ destinations → Well (with_pool entry x)
    unfolding with_pool shared_for marks_of
    well_pool h =
        record {
          pool = h;
          block = w.block;
          confirmed = w.confirmed;
          numbered = w.numbered;
          height = w.height;
          shared = w.shared;
          marks = w.marks;
        }

    pub well_block : {entry : ℕ} → entry ≤ destinations → Well (with_block entry x)
    unfolding with_block shared_for marks_of
    well_block h =
        record {
          pool = w.pool;
          block = h;
          confirmed = w.confirmed;
          numbered = w.numbered;
          height = w.height;
          shared = w.shared;
          marks = w.marks;
        }

    pub well_confirmed : {entry b : ℕ} → entry ≤ destinations → standing entry ≡ true → 0 < b → b ≤ mined → Well (with_confirmed entry b x)
    unfolding with_confirmed shared_for marks_of
    well_confirmed {entry} {b} h on some few =
        record {
          pool = w.pool;
          block = w.block;
          confirmed = h;
          numbered = lt-ltb 0 b some ∙ sym on;
          height = few;
          shared = w.shared;
          marks = w.marks;
        }

    pub well_shared : (to : ℕ) {mask : ℕ} → mask < 2 ^ signatures s → Well (with_shared to mask x)
    unfolding with_shared shared_for marks_of
    well_shared to {mask} h =
        record {
          pool = w.pool;
          block = w.block;
          confirmed = w.confirmed;
          numbered = w.numbered;
          height = w.height;
          shared = λ e.
              picked_has (MaskOf (signatures s)) (eqb e alice)
              (grown (signatures s) (eqb to alice) x.alice mask (w.shared alice) h)
              (picked_has (MaskOf (signatures s)) (eqb e bob)
              (grown (signatures s) (eqb to bob) x.bob mask (w.shared bob) h)
              (picked_has (MaskOf (signatures s)) (eqb e contract)
              (grown (signatures s) (eqb to contract) x.contract mask (w.shared contract) h)
              (grown (signatures s) (eqb to carol) x.carol mask (w.shared carol) h)));
          marks = w.marks;
        }

    pub well_mark : (party : ℕ) {to : ℕ} → to < destinations → Well (with_mark party to x)
    unfolding with_mark shared_for marks_of
    well_mark party {to} h =
        record {
          pool = w.pool;
          block = w.block;
          confirmed = w.confirmed;
          numbered = w.numbered;
          height = w.height;
          shared = w.shared;
          marks = λ k.
              picked_has (MaskOf destinations) (eqb k alice)
              (grown destinations (eqb party alice) x.alice_made (2 ^ to) (w.marks alice) (pow-lt h))
              (picked_has (MaskOf destinations) (eqb k bob)
              (grown destinations (eqb party bob) x.bob_made (2 ^ to) (w.marks bob) (pow-lt h))
              (picked_has (MaskOf destinations) (eqb k carol)
              (grown destinations (eqb party carol) x.carol_made (2 ^ to) (w.marks carol) (pow-lt h))
              (pow_pos destinations)));
        }

-- and stays so where more blocks are mined
pub well_later : (s : List ℕ) {m n : ℕ} → m ≤ n → {x : Slot} → WellformedSlot s m x → WellformedSlot s n x
well_later s l w =
    record {
      pool = w.pool;
      block = w.block;
      confirmed = w.confirmed;
      numbered = w.numbered;
      height = omega (arith, w.height, l);
      shared = w.shared;
      marks = w.marks;
    }
