-- What is read off entries, and the coins by a table.
-- Assumes nothing.
use Rattle.laws.proofs.Prelude.{ℕ, ◌-◌, ◌<◌, ◌≡◌, false, not, ◌&&◌, List, eqb, get_or, lt-ltb, arith}
use Rattle.laws.specs.Sets.{set_below, set_same}
use Rattle.sheet.specs.Field.{count}
use Rattle.ledger.specs.Coin.{coin_of}
use Rattle.slots.specs.Slot.{standing, entry_to}
use Rattle.soonest.specs.Forms.Table.{Filled}

module _ (entry to : ℕ) where
  pub names_none : entry ≡ 0 → false ≡ (standing entry && eqb (entry_to entry) to)
  unfolding standing
  names_none e = rw e

  pub names_one : (entry ≡ 0 → ⊥) → eqb (entry - 1) to ≡ (standing entry && eqb (entry_to entry) to)
  unfolding standing entry_to
  names_one h = rw (lt-ltb 0 entry (omega (arith, h)))

-- those of other coins than t, by the coins of all
pub foreign_is : (s coins : List ℕ) → Filled (λ k v. v ≡ coin_of s k) (count s) coins → (t r : ℕ) → t < count s
    → r ≡ set_below (count s) (λ k. not (eqb (get_or coins k 0) (get_or coins t 0)))
    → r ≡ set_below (count s) (λ k. not (eqb (coin_of s k) (coin_of s t)))
foreign_is s coins h t r l e =
    rw e
    (set_same (count s) (λ k. not (eqb (get_or coins k 0) (get_or coins t 0))) (λ k. not (eqb (coin_of s k) (coin_of s t)))
    (λ k m. rw (h.each k m, h.each t l)))
