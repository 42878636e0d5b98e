-- The rows of a report over a view and single slots are those of the position.
-- Assumes nothing.
use Rattle.laws.proofs.Prelude.{ℕ, zero, suc, ◌≤◌, ◌<◌, ◌≡◌, refl, sym, ◌∙◌, true, List, [], ◌∷◌, length, get_or, arith, not-suc-le-zero, le_of_suc-le-suc, bytes_of, bit}
use Rattle.laws.proofs.Prelude.{set_below, set_bit}
use Rattle.position.proofs.Rules.{count, parent, never, per_day, Slot, found_in, View, slot, in_pool, in_block, block_of, is_confirmed, confirmed_to, lock_height_in}
use Rattle.position.specs.declared.Position.{Position}
use Rattle.position.proofs.Rules.{deadline_in, view_below, since_in, status, payee, row, full_row}
use Rattle.output.specs.Forms.Row.{row_bytes}
use Rattle.slots.proofs.Since.{lock_height_since, deadline_since}
use Rattle.readings.specs.declared.Row.{Row}
use Rattle.readings.specs.Forms.Report.{status_in, payee_in, row_in}
use Rattle.position.proofs.BlockSets.{set_dead}
use Rattle.position.proofs.SendTests.{since_parent_lem}

pub payee_right : (p : Position) (t : ℕ) → payee_in (slot p t) ≡ payee p t
unfolding payee_in payee is_confirmed block_of confirmed_to
payee_right p t = refl

-- of a position p: its view, the set of those whose other rival is confirmed, the slot of t and its parent's block
module _ (s u : List ℕ) (p : Position) (t conflicted since : ℕ) (few : count s ≤ 32) (l : t < count s)
    (is-conflicted : conflicted ≡ set_below (count s) (found_in s (bit (view_below s (count s) p).confirmed) true))
    (is-since : since ≡ block_of p (parent s t)) where
  pub status_right : status_in s (view_below s (count s) p) conflicted t ≡ status s p t
  unfolding status_in status view_below
  status_right =
      rw (
        is-conflicted,
        set_dead s (set_below (count s) (is_confirmed p)) (is_confirmed p) t few l (set_bit (count s) (is_confirmed p) few),
        set_bit (count s) (in_pool p) few t l,
        set_bit (count s) (in_block p) few t l,
        set_bit (count s) (is_confirmed p) few t l,
      )

  pub row_right : row_in s (per_day u) (view_below s (count s) p) conflicted (slot p t) since t
      ≡ record { block = block_of p t; lock = lock_height_in s u p t; deadline = deadline_in s u p t; status = status s p t; payee = payee p t }
  unfolding row_in lock_height_in deadline_in block_of
  row_right =
      rw (status_right, payee_right p t, lock_height_since s (per_day u) (block_of p) since t (sym is-since), deadline_since s (per_day u) (block_of p) since t (sym is-since))

-- an element of a list, whatever stands for those past its end
get_d_same : (l : List ℕ) (i a b : ℕ) → i < length l → get_or l i a ≡ get_or l i b
get_d_same [] i a b h = absurd (not-suc-le-zero h)
get_d_same (x ∷ l) zero a b h = refl
get_d_same (x ∷ l) (suc i) a b h = get_d_same l i a b (le_of_suc-le-suc h)

-- what a loop over the transactions writes: the parts that it read are those of the position, the count o is that of t
pub row_written : (s u : List ℕ) (p : Position) (counts : List ℕ) (t d conflicted since : ℕ) (v : View) (x : Slot) (r : Row) (o : ℕ) → count s ≤ 32
    → length p.slots ≡ 32 → t < count s → d ≡ per_day u → v ≡ view_below s (count s) p
    → conflicted ≡ set_below (count s) (found_in s (bit v.confirmed) true) → x ≡ slot p t → since ≡ since_in s p t
    → r ≡ row_in s d v conflicted x since t → o ≡ get_or counts t 0 → length counts ≡ 32
    → row_bytes r.status r.payee r.block r.lock r.deadline o ≡ full_row s u p counts t
unfolding row_bytes full_row row bytes_of
row_written s u p counts t d conflicted since v x r o few n l ed ev es ex ec er eo m =
    rw (er, ed, ev, ex, eo ∙ get_d_same counts t 0 never (omega (arith, few, l, m)), row_right s u p t conflicted since few l (rw ev at es) (ec ∙ since_parent_lem s p n t))
