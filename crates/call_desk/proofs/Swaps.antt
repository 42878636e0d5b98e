-- The answers of the swaps, one after the other: what each need of their writer asks.
-- Assumes nothing.
use Rattle.laws.proofs.Prelude.{ℕ, ◌+◌, ◌-◌, ◌*◌, ◌≤◌, ◌<◌, ◌≡◌, sym, List, ◌++◌, length, take, drop, arith, gather, length_gather, bytes_of, over, Turns}
use Rattle.laws.proofs.Prelude.{turn_more, turns_done}
use Rattle.position.proofs.Rules.{run}
use Rattle.position.specs.declared.Ran.{Ran}
use borrow.Rule.Slice.PartMut.{put_mid}
use Rattle.call_desk.specs.Bundle.{swaps, setup_of, journal_of}
use Rattle.call_desk.specs.Desk.{swap_run, entry_bytes, swap_bytes, desk_bytes}
use Rattle.call_desk.specs.Forms.Bundle.{Stands}
use Rattle.call_desk.proofs.Desks.{swap_length}

-- the answer of the run that the code found
entry_of : (s b : List ℕ) (t : ℕ) (r : Ran) → r ≡ swap_run s b t → bytes_of 4 r.refusal ++ bytes_of 4 r.accepted ≡ swap_bytes s b t
unfolding swap_bytes entry_bytes
entry_of s b t r e = rw e

module _ (s b : List ℕ) where
  -- the run of the two parts that the code takes from the bundle
  pub run_of_parts : (i start size : ℕ) (r : Ran) → Stands b i start size
      → r ≡ run s (take (1 + 4 * i + 4 - (1 + 4 * i)) (drop (1 + 4 * i) b)) (take (start + size - start) (drop start b)) → r ≡ swap_run s b i
  unfolding swap_run setup_of journal_of
  run_of_parts i start size r h e =
      let four : 1 + 4 * i + 4 - (1 + 4 * i) ≡ 4 = omega arith in
      let long : start + size - start ≡ size = omega arith in
      rw (four, long, h.start_is, h.size_is) at e

  -- n swaps have room where eight bytes for each have
  pub all_room : (n m : ℕ) → n ≡ swaps b → 8 * swaps b ≤ m → length (gather n (swap_bytes s b)) ≤ m
  all_room n m e h = omega (arith, e, h, length_gather (swap_bytes s b) 8 (swap_length s b) n)

  -- a turn writes eight bytes, the answer of the run r
  module _ (n : ℕ) (l₀ l : List ℕ) (t : ℕ) where
    pub eight_more : (ys : List ℕ) (r : Ran) → Turns (swap_bytes s b) n l₀ l (8 * t) t → t < n → r ≡ swap_run s b t
        → ys ≡ over (bytes_of 4 r.refusal ++ bytes_of 4 r.accepted) (take (length l - 8 * t) (drop (8 * t) l))
        → Turns (swap_bytes s b) n l₀ (put_mid (8 * t) (length l - 8 * t) l ys) (8 * (t + 1)) (t + 1)
    eight_more ys r h m e o =
        let next : 8 * t + 8 ≡ 8 * (t + 1) = omega arith in
        rw (← next) (turn_more (swap_bytes s b) n l₀ l ys (8 * t) t 8 h m (sym (swap_length s b t)) (rw (entry_of s b t r e) at o))

    pub answers_done : n ≡ swaps b → Turns (swap_bytes s b) n l₀ l (8 * t) t → n ≤ t → l ≡ over (desk_bytes s b) l₀
    unfolding desk_bytes
    answers_done e h m = rw (← e) (turns_done (swap_bytes s b) n l₀ l (8 * t) t h m).is
