-- The heights beside what is above another transaction.
-- Assumes nothing.
use Rattle.laws.proofs.Prelude.{ℕ, ◌≡◌, refl, sym, ◌∙◌, List, Bool, true, false, not, ◌&&◌, ◌||◌, eqb, ltb, get_or, lt-ltb, le-ltb, arith}
use lib.Bits.{bit_or}
use Rattle.laws.specs.Booleans.{clash}
use Rattle.laws.specs.Mask.{bit}
use Rattle.sheet.specs.Field.{count}
use Rattle.sheet.specs.Checked.{Checked}
use Rattle.ledger.specs.Coin.{coin_of}
use Rattle.slots.specs.Destination.{is_payee, is_contract}
use Rattle.attainable.specs.declared.Others.{Others}
use Rattle.attainable.specs.Attainable.{gone}
use Rattle.slack.specs.Beaten.{above, can_come, can_come_elsewhere}
use Rattle.kept.specs.Forms.Prospect.{outlasts}
use Rattle.prospect.specs.declared.Marks.{Marks}
use Rattle.prospect.specs.declared.until.Found.{Found}
use Rattle.prospect.specs.Forms.Marks.{comers_in}
use Rattle.prospect.specs.Forms.Tables.{until_at}
use Rattle.prospect.specs.Forms.Until.{lasting, Holds, Lasts}
use Rattle.prospect.proofs.Marked.{mark}
use Rattle.prospect.proofs.Coming.{comers_tell}
use Rattle.prospect.proofs.Tells.{until_tells}

short : (a b c : Bool) → (a && (b && true)) ≡ false → (a && (b && c)) ≡ false
short true true c h = clash {b = true} refl h
short true false c h = refl
short false b c h = refl

module _ (s : List ℕ) (m : Marks) (o : Others) (ok : Checked s) (t k : ℕ) where
  -- from what can come
  pub lasts_found : (f : Found) (v : ℕ) → Holds s o f → f.also ≡ bit_or (get_or m.above t 0) (get_or m.above k 0)
      → v ≡ until_at m (comers_in m f.can f.elsewhere k) k → Lasts s m o t k v
  unfolding can_come can_come_elsewhere
  lasts_found f v holds e w =
      record {
        tells = λ u p x reads is i j apart off small.
            let also : f.also ≡ bit_or (above s p t) (above s p k) = e ∙ rw (is.above_are.each t i, is.above_are.each k j) in
            rw w
            (until_tells s u p x m ok is k j off small (above s p t) (comers_in m f.can f.elsewhere k)
            (comers_tell s u p x m ok is k j (above s p t) f.can f.elsewhere
            (holds.can.is u p x reads ∙ rw also)
            (holds.elsewhere.is u p x reads ∙ rw also)));
      }

  -- k cannot last
  pub lasts_none : lasting m t k ≡ false → Lasts s m o t k 0
  unfolding lasting outlasts
  lasts_none e =
      record {
        tells = λ u p x reads is i j apart off small.
            let far : bit (get_or m.foreign t 0) k ≡ true =
            mark s ok (get_or m.foreign t 0) (λ r. not (eqb (coin_of s r) (coin_of s t))) (is.foreign_are.each t i) k j ∙ rw apart in
            let some : ltb k m.count ≡ true = rw is.count_is (lt-ltb k (count s) j) in
            let out = rw (
              some,
              far,
              mark s ok m.gone (gone s p) is.gone_is k j,
              mark s ok m.payable (λ r. is_contract s r || is_payee s r x) is.payable_is k j,
            ) at e in
            le-ltb off 0 (omega arith) ∙ sym (short (not (gone s p k)) (is_contract s k || is_payee s k x) _ out);
      }
