-- What can come beside each transaction, as tables have it.
-- Assumes nothing.
use Rattle.laws.proofs.Prelude.{ℕ, ◌<◌, ◌≡◌, refl, ◌∙◌, List, get_or}
use lib.Bits.{bit_and, bit_or, or_zero_l}
use Rattle.laws.specs.Mask.{bit}
use Rattle.laws.specs.Sets.{removed, set_below, set_small}
use Rattle.sheet.specs.Field.{count}
use Rattle.sheet.specs.Checked.{Checked}
use Rattle.slots.specs.Forms.Line.{line_set}
use Rattle.position.specs.declared.Position.{Position}
use Rattle.position.specs.Position.{keys}
use Rattle.soonest.specs.Forms.Table.{Filled}
use Rattle.attainable.specs.declared.Others.{Others}
use Rattle.attainable.specs.Attainable.{attainable, attainable_elsewhere, comes}
use Rattle.attainable.specs.Forms.Others.{Reads}
use Rattle.attainable.specs.Forms.Round.{shown_in, Attains, AttainsElsewhere}
use Rattle.slack.specs.Beaten.{above, can_come, can_come_elsewhere}
use Rattle.slack.specs.Kept.{known_at}
use Rattle.prospect.specs.declared.Marks.{Marks}
use Rattle.prospect.specs.Forms.Marks.{Marked, Comers, comers_in}
use Rattle.prospect.proofs.Coming.{comers_tell}
use Rattle.prospect.proofs.Meets.{above_is}
use Rattle.prospect.proofs.Reading.{known_is}
use Rattle.laws.specs.Below.{any_below}
use mathlib.Core.Bool.{not, ◌&&◌}
use lib.Dec.{eqb}
use Rattle.slots.specs.Destination.{destinations}

module _ (s u : List ℕ) (p : Position) (x : ℕ) (ok : Checked s) (o : Others) (reads : Reads s u p x o) where
  -- those above each, and what X knows then, in tables
  pub above_filled : (members : ℕ) → members ≡ set_below (count s) (λ k. not (bit o.confirmed k)) → (table : List ℕ)
      → Filled (λ t v. v ≡ bit_and members (removed (line_set s t) t)) (count s) table → Filled (λ t v. v ≡ above s p t) (count s) table
  above_filled members e table h = record { size = h.size; each = λ t l. h.each t l ∙ above_is s p ok o.confirmed reads.confirmed members e t l }

  pub known_filled : (held : ℕ) → held ≡ keys p x → (ancestors table : List ℕ) → Filled (λ t v. v ≡ above s p t) (count s) ancestors
      → Filled (λ t v. v ≡ bit_or (bit_or held o.secrets) (shown_in s o.shows (get_or ancestors t 0))) (count s) table
      → Filled (λ t v. v ≡ known_at s p x t) (count s) table
  known_filled held e ancestors table a h =
      record {
        size = h.size;
        each = λ t l.
            h.each t l
            ∙ known_is s u p x ok (bit_or held o.secrets) held o.secrets o.shows e reads.secrets refl reads.shows t (get_or ancestors t 0) (a.each t l);
      }

module _ (s u : List ℕ) (p : Position) (x : ℕ) (ok : Checked s) (o : Others) (reads : Reads s u p x o)
    (ancestors can elsewhere : List ℕ) (over : Filled (λ t v. v ≡ above s p t) (count s) ancestors)
    (cans : Filled (λ t v. Attains s o (get_or ancestors t 0) v) (count s) can)
    (elsewheres : Filled (λ t v. AttainsElsewhere s o (get_or ancestors t 0) v) (count s) elsewhere) where
  can_is : (t : ℕ) → t < count s → get_or can t 0 ≡ can_come s u p x 0 t
  unfolding can_come
  can_is t l = (cans.each t l).is u p x reads ∙ rw (or_zero_l (above s p t), over.each t l)

  pub elsewhere_is : (t : ℕ) → t < count s → get_or elsewhere t 0 ≡ can_come_elsewhere s u p x 0 t
  unfolding can_come_elsewhere
  elsewhere_is t l = (elsewheres.each t l).is u p x reads ∙ rw (or_zero_l (above s p t), over.each t l)

  pub elsewhere_small : (t : ℕ) → t < count s → get_or elsewhere t 0 < 4294967296
  unfolding attainable_elsewhere
  elsewhere_small t l =
      rw ((elsewheres.each t l).is u p x reads)
      (set_small 32 (count s) (λ k. any_below destinations (λ d. not (eqb d x) && comes s u p x (bit (get_or ancestors t 0)) (attainable s u p x (bit (get_or ancestors t 0))) k d))
      ok.sized.few)

  pub comers_are : (m : Marks) → Marked s u p x m → (come : List ℕ)
      → Filled (λ t v. v ≡ comers_in m (get_or can t 0) (get_or elsewhere t 0) t) m.count come → Filled (λ t v. Comers s u p x 0 t v) (count s) come
  comers_are m is come h =
      record {
        size = h.size;
        each = λ t l.
            rw (h.each t (rw is.count_is l))
            (comers_tell s u p x m ok is t l 0 (get_or can t 0) (get_or elsewhere t 0) (can_is t l) (elsewhere_is t l));
      }
