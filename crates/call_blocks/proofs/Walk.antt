-- A list passed entry by entry, each tested over what was passed before: one law for every loop over a list.
-- Assumes nothing.
use Rattle.laws.proofs.Prelude.{ℕ, ◌+◌, ◌*◌, ◌≤◌, ◌<◌, ◌≡◌, refl, sym, ◌∙◌, Bool, true, false, not, ◌&&◌, List, [], ◌∷◌, length, drop, length-drop, not-true, not-false}
use Rattle.laws.proofs.Prelude.{arith, drop-drop, number_at}
use Rattle.position.proofs.Rules.{Entry}
use lib.Seq.{get_or-drop}
use Rattle.laws.specs.Little.{number_part}
use Rattle.call_blocks.specs.declared.Listed.{Listed}
use Rattle.call_blocks.specs.BlockList.{list_entries}
use Rattle.call_blocks.specs.Forms.Listed.{listed_at, entry_of}

none_more : (i : ℕ) → i + 0 ≡ i
none_more i = omega arith

-- the first entry, and none where fewer than four bytes are left
front : (l : List ℕ) → 4 ≤ length l → list_entries l ≡ entry_of (listed_at l 0) ∷ list_entries (drop 4 l)
unfolding list_entries listed_at number_at
front [] h = absurd (omega arith)
front (t ∷ []) h = absurd (omega arith)
front (t ∷ d ∷ []) h = absurd (omega arith)
front (t ∷ d ∷ b ∷ []) h = absurd (omega arith)
front (t ∷ d ∷ b ∷ c ∷ l) h = refl

few : (l : List ℕ) → length l < 4 → list_entries l ≡ []
unfolding list_entries
few [] h = refl
few (t ∷ []) h = refl
few (t ∷ d ∷ []) h = refl
few (t ∷ d ∷ b ∷ []) h = refl
few (t ∷ d ∷ b ∷ c ∷ l) h = absurd (omega arith)

-- the block of the entry that starts at byte i
block_at : (l : List ℕ) (i : ℕ) → number_at 2 (drop i l) 2 ≡ number_at 2 l (i + 2)
block_at l i = number_part 2 (drop i l) 2 ∙ rw (drop-drop 2 i l) (sym (number_part 2 l (i + 2)))

next_at : (l : List ℕ) (i : ℕ) → i + 4 ≤ length l → list_entries (drop i l) ≡ entry_of (listed_at l i) ∷ list_entries (drop (i + 4) l)
unfolding listed_at
next_at l i h =
    front (drop i l) (omega (arith, length-drop i l))
    ∙ rw (get_or-drop i l 0 0, get_or-drop i l 1 0, block_at l i, drop-drop 4 i l, none_more i)

-- the entries from number k on
unfoldable pub entries_from : List ℕ → ℕ → List Entry
entries_from list k = list_entries (drop (4 * k) list)

pub entries_next : (list : List ℕ) (k : ℕ) → 4 * k + 4 ≤ length list → entries_from list k ≡ entry_of (listed_at list (4 * k)) ∷ entries_from list (k + 1)
unfolding entries_from
entries_next list k h = let e : 4 * k + 4 ≡ 4 * (k + 1) = omega arith in rw (next_at list (4 * k) h, e)

pub entries_none : (list : List ℕ) (k : ℕ) → length list < 4 * k + 4 → entries_from list k ≡ []
unfolding entries_from
entries_none list k h = few (drop (4 * k) list) (omega (arith, length-drop (4 * k) list))

module _ {S : Type 0} (right : S → Entry → Bool) (next : S → Entry → S) where
  -- every entry is right over what those before it leave
  unfoldable pub walk : List Entry → S → Bool
  walk [] a = true
  walk (e ∷ l) a = right a e && walk l (next a e)

  -- what is left to pass from entry k on
  unfoldable pub left : List ℕ → ℕ → S → Bool
  left list k a = walk (entries_from list k) a

  pub left_all : (list : List ℕ) (a : S) → left list 0 a ≡ walk (list_entries list) a
  unfolding left entries_from
  left_all list a = refl

  -- a turn, where r is what the code's test answered: it goes on, or it stops
  pub left_on : (list : List ℕ) (k : ℕ) (a b : S) (w r : Bool) (x : Listed) → left list k a ≡ w → 4 * k + 4 ≤ length list → x ≡ listed_at list (4 * k)
      → r ≡ right a (entry_of x) → not r ≡ false → b ≡ next a (entry_of x) → left list (k + 1) b ≡ w
  unfolding left walk
  left_on list k a b w r x o h e t n q =
      let y : right a (entry_of (listed_at list (4 * k))) ≡ true = rw (← e) (sym t ∙ not-false r n) in
      rw (q, e) (rw (entries_next list k h, y) at o)

  pub left_stopped : (list : List ℕ) (k : ℕ) (a : S) (w r : Bool) (x : Listed) → left list k a ≡ w → 4 * k + 4 ≤ length list → x ≡ listed_at list (4 * k)
      → r ≡ right a (entry_of x) → not r ≡ true → false ≡ w
  unfolding left walk
  left_stopped list k a w r x o h e t n =
      let y : right a (entry_of (listed_at list (4 * k))) ≡ false = rw (← e) (sym t ∙ not-true r n) in
      rw (entries_next list k h, y) at o

  -- no entry is left
  pub left_ended : (list : List ℕ) (k : ℕ) (a : S) (w : Bool) → left list k a ≡ w → length list < 4 * k + 4 → true ≡ w
  unfolding left walk
  left_ended list k a w o h = rw (entries_none list k h) at o
