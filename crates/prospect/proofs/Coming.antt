-- The rivals of a transaction that come beside it.
-- Assumes nothing.
use Rattle.laws.proofs.Prelude.{ℕ, ◌<◌, ◌≡◌, refl, ◌∙◌, List, Bool, true, false, not, ◌&&◌, ◌||◌, eqb, get_or, arith}
use lib.Bits.{bit_and}
use Rattle.laws.specs.Booleans.{split}
use Rattle.laws.specs.Mask.{bit}
use Rattle.laws.specs.Bits.{bit_and_lem}
use Rattle.laws.specs.Sets.{removed, bit_joined, bit_removed}
use Rattle.sheet.specs.Field.{count}
use Rattle.sheet.specs.Checked.{Checked}
use Rattle.slots.specs.Destination.{is_contract}
use Rattle.slots.specs.Conflict.{conflict}
use Rattle.position.specs.declared.Position.{Position}
use Rattle.slack.specs.Beaten.{can_come, can_come_elsewhere, comes_beside}
use Rattle.prospect.specs.declared.Marks.{Marks}
use Rattle.prospect.specs.Forms.Marks.{Marked, Comers, comers_in}
use Rattle.prospect.proofs.Marked.{mark}

-- a rival but itself, or itself
other : (a b on : Bool) → (((a && b) && true) || (on && false)) ≡ (a && b)
other true true on = refl
other true false true = refl
other true false false = refl
other false b true = refl
other false b false = refl

itself : (a on : Bool) → ((a && false) || (on && true)) ≡ on
itself true true = refl
itself true false = refl
itself false true = refl
itself false false = refl

own_rival : (s : List ℕ) (r t : ℕ) → eqb r t ≡ true → conflict s r t ≡ true
unfolding conflict
own_rival s r t y = rw y

module _ (s u : List ℕ) (p : Position) (x : ℕ) (m : Marks) (ok : Checked s) (is : Marked s u p x m) (t : ℕ) (l : t < count s) where
  pub comers_tell : (also can elsewhere : ℕ) → can ≡ can_come s u p x also t → elsewhere ≡ can_come_elsewhere s u p x also t
      → Comers s u p x also t (comers_in m can elsewhere t)
  unfolding comers_in comes_beside
  comers_tell also can elsewhere e f =
      record {
        tells = λ r h.
            let few = ok.sized.few in
            bit_joined (removed (bit_and (get_or m.rivals t 0) can) t) (not (bit m.contract t) && bit elsewhere t) t r (omega (arith, l, few)) (omega (arith, h, few))
            ∙ rw (
              bit_removed (bit_and (get_or m.rivals t 0) can) t r (omega (arith, l, few)) (omega (arith, h, few)),
              bit_and_lem (get_or m.rivals t 0) can r,
              mark s ok (get_or m.rivals t 0) (λ k. conflict s k t) (is.rivals_are.each t l) r h,
              mark s ok m.contract (is_contract s) is.contract_is t l,
              e,
              f,
            )
            (split (eqb r t)
            (λ y. rw (y, own_rival s r t y) (itself (bit (can_come s u p x also t) r) (not (is_contract s t) && bit (can_come_elsewhere s u p x also t) t)))
            (λ y. rw y (other (conflict s r t) (bit (can_come s u p x also t) r) (not (is_contract s t) && bit (can_come_elsewhere s u p x also t) t))));
      }
