-- Buffers written from the front: a list copied byte by byte, and a loop whose turns write a whole, each what its state says.
-- Assumes nothing.
use Rattle.laws.proofs.Prelude.{ℕ, zero, suc, ◌+◌, ◌-◌, ◌≤◌, ◌<◌, ◌≡◌, refl, sym, ap, ◌∙◌, List, [], ◌∷◌, ◌++◌, append_assoc, append-nil, length, get_or, take, drop, set}
use Rattle.laws.proofs.Prelude.{length-append, length-set, arith, not-suc-le-zero, le_of_suc-le-suc, over, over_none, Wrote, wrote_room, wrote_more, front_fits}
use native.Mathlib.Numerals.{add-one}
use lib.Seq.{take-length}
use borrow.Rule.Slice.PartMut.{put_mid}
use Rattle.laws.specs.Wrote.{wrote_none}

-- ---- a list is copied from the front: the first i elements stand
pub record Copied (f l₀ l : List ℕ) (i : ℕ) : Type 0 where
  pub most : i ≤ length f
  pub is : l ≡ over (take i f) l₀
  pub long : length l ≡ length l₀

copy_one : (f l : List ℕ) (i : ℕ) → i < length f → set (over (take i f) l) i (get_or f i 0) ≡ over (take (suc i) f) l
unfolding over
copy_one [] l i h = absurd (not-suc-le-zero h)
copy_one (x ∷ f) [] zero h = refl
copy_one (x ∷ f) (y ∷ l) zero h = refl
copy_one (x ∷ f) [] (suc i) h = refl
copy_one (x ∷ f) (y ∷ l) (suc i) h = ap (λ r. x ∷ r) (copy_one f l i (le_of_suc-le-suc h))

module _ (f l₀ : List ℕ) where
  pub copied_none : Copied f l₀ l₀ 0
  copied_none = record { most = omega arith; is = over_none l₀; long = refl }

  pub copied_more : (l : List ℕ) (i v : ℕ) → Copied f l₀ l i → i < length f → v ≡ get_or f i 0 → Copied f l₀ (set l i v) (i + 1)
  copied_more l i v c h e =
      record {
        most = omega (arith, h);
        is = rw (c.is, e, add-one) (copy_one f l₀ i h);
        long = length-set l i v ∙ c.long;
      }

  pub copied_all : (l : List ℕ) (i : ℕ) → Copied f l₀ l i → length f ≤ i → l ≡ over f l₀
  copied_all l i c h =
      let e : i ≡ length f = omega (arith, c.most) in
      c.is ∙ ap (λ w. over w l₀) (rw e (take-length f))

-- ---- a loop over states, where `from k p` is what turn k and those after it write, from state p on, and `whole` what all write
module _ {P : Type 0} (from : ℕ → P → List ℕ) (whole : List ℕ) where
  -- what holds before turn k, in state p: a front is written up to `at`, and the rest has room
  pub record Writing (l₀ l : List ℕ) (p : P) (at k : ℕ) : Type 0 where
    pub front : List ℕ
    pub wrote : Wrote front l₀ l at
    pub left : front ++ from k p ≡ whole
    pub room : length whole ≤ length l₀

  pub writing_start : (l : List ℕ) (p : P) → from 0 p ≡ whole → length whole ≤ length l → Writing l l p 0 0
  writing_start l p e h = record { front = []; wrote = wrote_none l; left = e; room = h }

module _ {P : Type 0} {from : ℕ → P → List ℕ} {whole l₀ l : List ℕ} {p : P} {at k : ℕ} (w : Writing from whole l₀ l p at k) where
  -- the turn writes `now`, and goes on with state q
  module _ (now : List ℕ) (q : P) (e : from k p ≡ now ++ from (k + 1) q) where
    goes_on : (w.front ++ now) ++ from (k + 1) q ≡ whole
    goes_on = append_assoc w.front now (from (k + 1) q) ∙ ap (λ x. w.front ++ x) (sym e) ∙ w.left

    -- no more is written than there is
    pub writing_end : (m n : ℕ) → m ≡ length now → length whole ≤ n → at + m ≤ n
    writing_end m n g h =
        omega (arith, w.wrote.at, length-append w.front now, front_fits (w.front ++ now) (from (k + 1) q) n (rw goes_on h))

    has_room : length (w.front ++ now) ≤ length l₀
    has_room = front_fits (w.front ++ now) (from (k + 1) q) (length l₀) (rw goes_on w.room)

    pub writing_room : length now ≤ length (take (length l - at) (drop at l))
    writing_room = wrote_room w.front l₀ l now at w.wrote has_room

    pub writing_more : (m : ℕ) (ys : List ℕ) → m ≡ length now → ys ≡ over now (take (length l - at) (drop at l))
        → Writing from whole l₀ (put_mid at (length l - at) l ys) q (at + m) (k + 1)
    writing_more m ys g o =
        record { front = w.front ++ now; wrote = wrote_more w.front l₀ l now ys at m w.wrote has_room g o; left = goes_on; room = w.room }

  -- nothing is left to write
  pub writing_done : from k p ≡ [] → Wrote whole l₀ l at
  writing_done e = rw (sym (append-nil w.front) ∙ rw e at w.left) at w.wrote
