-- A buffer that is written from the front, part by part: what each need of such a writer asks.
-- Assumes nothing.
use Rattle.std.specs.Prelude.{ℕ, ◌+◌, ◌-◌, ◌≤◌, ◌<◌, ◌≡◌, refl, List, [], ◌++◌, length, take, drop}
use Rattle.std.proofs.Common.{arith, ap, ◌∙◌, length-append, length-drop, take_all}
use borrow.Rule.Slice.PartMut.{put_mid}
use Rattle.laws.specs.Over.{over, over_none, over_lent, length_over}
use Rattle.laws.specs.Gather.{gather, gather_none, gather_more, gather_room}

-- l is l₀ with w over its front, and w ends at n
pub record Wrote {A : Type 0} (w l₀ l : List A) (n : ℕ) : Type 0 where
  pub at : n ≡ length w
  pub is : l ≡ over w l₀
  pub fits : length w ≤ length l₀
  pub long : length l ≡ length l₀

module _ {A : Type 0} where
  -- the part from a to the end
  pub to_end : (s : List A) (a : ℕ) → take (length s - a) (drop a s) ≡ drop a s
  to_end s a = take_all (length s - a) (drop a s) (omega (arith, length-drop a s))

  pub wrote_none : (l : List A) → Wrote [] l l 0
  wrote_none l = record { at = refl; is = over_none l; fits = omega arith; long = refl }

  -- the whole was lent first
  pub wrote_first : (w l₀ l : List A) (n : ℕ) → length w ≤ length l₀ → n ≡ length w → l ≡ over w l₀ → Wrote w l₀ l n
  wrote_first w l₀ l n f e o = record { at = e; is = o; fits = f; long = ap length o ∙ length_over w l₀ }

  -- the part from n has room for v
  pub wrote_room : (w l₀ l v : List A) (n : ℕ) → Wrote w l₀ l n → length (w ++ v) ≤ length l₀ → length v ≤ length (take (length l - n) (drop n l))
  wrote_room w l₀ l v n h f = rw (to_end l n) (omega (arith, h.at, h.long, length-drop n l, length-append w v))

  -- the part from n was lent, and came back with v over its front
  pub wrote_more : (w l₀ l v ys : List A) (n m : ℕ) → Wrote w l₀ l n → length (w ++ v) ≤ length l₀ → m ≡ length v
      → ys ≡ over v (take (length l - n) (drop n l)) → Wrote (w ++ v) l₀ (put_mid n (length l - n) l ys) (n + m)
  wrote_more w l₀ l v ys n m h f e o =
      let is : put_mid n (length l - n) l ys ≡ over (w ++ v) l₀ = rw o (over_lent w v l₀ l n (length l - n) h.is h.at refl) in
      record { at = omega (arith, h.at, length-append w v); is = is; fits = f; long = ap length is ∙ length_over (w ++ v) l₀ }

  -- a front fits where the whole does
  pub front_fits : (x y : List A) (m : ℕ) → length (x ++ y) ≤ m → length x ≤ m
  front_fits x y m h = omega (arith, length-append x y)

-- a loop whose turn t writes f t
module _ {A : Type 0} (f : ℕ → List A) where
  -- what holds before turn t of n: the earlier turns' lists are written, and all have room
  pub record Turns (n : ℕ) (l₀ l : List A) (at t : ℕ) : Type 0 where
    pub count : t ≤ n
    pub room : length (gather n f) ≤ length l₀
    pub wrote : Wrote (gather t f) l₀ l at

  pub turns_start : (n : ℕ) (l : List A) → length (gather n f) ≤ length l → Turns n l l 0 0
  turns_start n l h = record { count = omega arith; room = h; wrote = rw (gather_none f) (wrote_none l) }

  -- the turn's list has room in the part that is left
  pub turn_room : (n : ℕ) (l₀ l : List A) (at t : ℕ) → Turns n l₀ l at t → t < n → length (f t) ≤ length (take (length l - at) (drop at l))
  turn_room n l₀ l at t h m = wrote_room (gather t f) l₀ l (f t) at h.wrote (gather_room f t n (length l₀) m h.room)

  -- and does not end beyond the buffer
  pub turn_end : (n : ℕ) (l₀ l : List A) (at t k : ℕ) → Turns n l₀ l at t → t < n → k ≡ length (f t) → at + k ≤ length l₀
  turn_end n l₀ l at t k h m e =
      omega (arith, e, h.wrote.at, length-append (gather t f) (f t), gather_room f t n (length l₀) m h.room)

  pub turn_more : (n : ℕ) (l₀ l ys : List A) (at t k : ℕ) → Turns n l₀ l at t → t < n → k ≡ length (f t)
      → ys ≡ over (f t) (take (length l - at) (drop at l)) → Turns n l₀ (put_mid at (length l - at) l ys) (at + k) (t + 1)
  turn_more n l₀ l ys at t k h m e o =
      record {
        count = omega arith;
        room = h.room;
        wrote = rw (gather_more f t (f t) refl) (wrote_more (gather t f) l₀ l (f t) ys at k h.wrote (gather_room f t n (length l₀) m h.room) e o);
      }

  pub turns_done : (n : ℕ) (l₀ l : List A) (at t : ℕ) → Turns n l₀ l at t → n ≤ t → Wrote (gather n f) l₀ l at
  turns_done n l₀ l at t h m = let e : t ≡ n = omega (arith, h.count) in rw e at h.wrote
