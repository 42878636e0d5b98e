-- Rounds: what one keeps, that they end, and that nothing is left which can go.
-- Assumes nothing.
use Rattle.laws.proofs.Prelude.{ℕ, zero, suc, ◌+◌, ◌≤◌, ◌<◌, ◌≡◌, refl, sym, ◌∙◌, Bool, true, false, List, [], ◌∷◌, ◌++◌, append_assoc, append-nil, eqb, ltb, length}
use Rattle.laws.proofs.Prelude.{take, drop, length-append, eqb-true, eqb-false, eq-eqb, ne_eqb, lt-ltb, arith, split, and_parts}
use Rattle.position.proofs.Rules.{start, FourBytes}
use Rattle.call_shrink.specs.Shrink.{still_refused, can_go, round_from, round, rounds, shrunk}

module _ (s u : List ℕ) (number : ℕ) where
  abbrev still : List FourBytes → Bool
  still row = still_refused s u number (start s) row

  -- a step goes, or is kept
  pub round_drops : (kept after : List FourBytes) (b : FourBytes) → can_go s u number kept after ≡ true → round_from s u number kept (b ∷ after) ≡ round_from s u number kept after
  unfolding round_from
  round_drops kept after b h = rw (h, round_from)

  pub round_keeps : (kept after : List FourBytes) (b : FourBytes) → can_go s u number kept after ≡ false
      → round_from s u number kept (b ∷ after) ≡ round_from s u number (kept ++ (b ∷ [])) after
  unfolding round_from
  round_keeps kept after b h = rw (h, round_from)

  pub round_ends : (kept : List FourBytes) → round_from s u number kept [] ≡ kept
  unfolding round_from
  round_ends kept = refl

  pub can_still : (kept after : List FourBytes) → can_go s u number kept after ≡ true → still (kept ++ after) ≡ true
  unfolding can_go
  can_still kept after h = (and_parts (ltb 0 (length after)) (still (kept ++ after)) h).1

  cannot_still : (kept after : List FourBytes) → can_go s u number kept after ≡ false → 0 < length after → still (kept ++ after) ≡ false
  unfolding can_go
  cannot_still kept after h g = let e = lt-ltb 0 (length after) g in rw e at h

  snoc : (kept after : List FourBytes) (b : FourBytes) → (kept ++ (b ∷ [])) ++ after ≡ kept ++ (b ∷ after)
  snoc kept after b = append_assoc kept (b ∷ []) after

  -- a round keeps the refusal
  pub round_still : (kept row : List FourBytes) → still (kept ++ row) ≡ true → still (round_from s u number kept row) ≡ true
  round_still kept [] h = rw (round_ends kept) (rw (append-nil kept) at h)
  round_still kept (b ∷ after) h =
      split (can_go s u number kept after)
      (λ e. rw (round_drops kept after b e) (round_still kept after (can_still kept after e)))
      (λ e. rw (round_keeps kept after b e) (round_still (kept ++ (b ∷ [])) after (rw (snoc kept after b) h)))

  -- it has no more steps
  pub round_length : (kept row : List FourBytes) → length (round_from s u number kept row) ≤ length kept + length row
  round_length kept [] = rw (round_ends kept) (omega arith)
  round_length kept (b ∷ after) =
      split (can_go s u number kept after)
      (λ e. rw (round_drops kept after b e) (omega (arith, round_length kept after)))
      (λ e. rw (round_keeps kept after b e) (omega (arith, round_length (kept ++ (b ∷ [])) after, length-append kept (b ∷ []))))

  -- where it has as many, it is the same row, and no step of it can go
  pub record Fixed (kept row : List FourBytes) : Type 0 where
    pub same : round_from s u number kept row ≡ kept ++ row
    pub needed : (i : ℕ) → suc i < length row → still (kept ++ (take i row ++ drop (suc i) row)) ≡ false

  fixed_next : (kept after : List FourBytes) (b : FourBytes) → can_go s u number kept after ≡ false → Fixed (kept ++ (b ∷ [])) after
      → (i : ℕ) → suc i < length (b ∷ after) → still (kept ++ (take i (b ∷ after) ++ drop (suc i) (b ∷ after))) ≡ false
  fixed_next kept after b e w zero h = cannot_still kept after e (omega arith)
  fixed_next kept after b e w (suc i) h = rw (← (snoc kept (take i after ++ drop (suc i) after) b)) (w.needed i (omega arith))

  pub round_fixed : (kept row : List FourBytes) → length (round_from s u number kept row) ≡ length kept + length row → Fixed kept row
  round_fixed kept [] h = record { same = rw (round_ends kept, append-nil kept); needed = λ i g. absurd (omega arith) }
  round_fixed kept (b ∷ after) h =
      split (can_go s u number kept after)
      (λ e. let l = rw (round_drops kept after b e) at h in absurd (omega (arith, l, round_length kept after)))
      (λ e.
      let l = rw (round_keeps kept after b e) at h in
      let w = round_fixed (kept ++ (b ∷ [])) after (omega (arith, l, length-append kept (b ∷ []))) in
      record { same = round_keeps kept after b e ∙ w.same ∙ snoc kept after b; needed = fixed_next kept after b e w })

  -- ---- rounds
  abbrev next : List FourBytes → List FourBytes
  next row = round s u number row

  pub next_still : (row : List FourBytes) → still row ≡ true → still (next row) ≡ true
  unfolding round
  next_still row h = round_still [] row h

  pub next_length : (row : List FourBytes) → length (next row) ≤ length row
  unfolding round
  next_length row = omega (arith, round_length [] row)

  pub next_fixed : (row : List FourBytes) → length (next row) ≡ length row → Fixed [] row
  unfolding round
  next_fixed row h = round_fixed [] row (omega arith)

  pub next_same : (row : List FourBytes) → length (next row) ≡ length row → next row ≡ row
  unfolding round
  next_same row h = (next_fixed row h).same

  rounds_settled : (k : ℕ) (row : List FourBytes) → length (next row) ≡ length row → rounds s u number k row ≡ row
  unfolding rounds
  rounds_settled zero row h = refl
  rounds_settled (suc k) row h = rw (eq-eqb (length (next row)) (length row) h, rounds)

  rounds_more : (k : ℕ) (row : List FourBytes) → eqb (length (next row)) (length row) ≡ false → rounds s u number (suc k) row ≡ rounds s u number k (next row)
  unfolding rounds
  rounds_more k row h = rw (h, rounds)

  -- any number of rounds that is not below the number of steps comes to the same
  pub rounds_enough : (k m : ℕ) (row : List FourBytes) → length row ≤ k → length row ≤ m → rounds s u number k row ≡ rounds s u number m row
  rounds_enough zero m row h g =
      let z : length (next row) ≡ length row = omega (arith, next_length row) in
      rounds_settled zero row z ∙ sym (rounds_settled m row z)
  rounds_enough (suc k) zero row h g =
      let z : length (next row) ≡ length row = omega (arith, next_length row) in
      rounds_settled (suc k) row z ∙ sym (rounds_settled zero row z)
  rounds_enough (suc k) (suc m) row h g =
      split (eqb (length (next row)) (length row))
      (λ e. let z = eqb-true (length (next row)) (length row) e in rounds_settled (suc k) row z ∙ sym (rounds_settled (suc m) row z))
      (λ e.
      let z = eqb-false (length (next row)) (length row) e in
      rounds_more k row e ∙ rounds_enough k m (next row) (omega (arith, next_length row)) (omega (arith, next_length row)) ∙ sym (rounds_more m row e))

  -- the part that is left: no round changes it, or it is that of the next round
  pub shrunk_settled : (row : List FourBytes) → length (next row) ≡ length row → shrunk s u number row ≡ row
  unfolding shrunk
  shrunk_settled row h = rounds_settled (length row) row h

  shrunk_from : (k : ℕ) (row : List FourBytes) → k ≡ length row → (length (next row) ≡ length row → ⊥) → rounds s u number k row ≡ rounds s u number (length (next row)) (next row)
  shrunk_from zero row e h = absurd (h (omega (arith, next_length row)))
  shrunk_from (suc k) row e h =
      rounds_more k row (ne_eqb (length (next row)) (length row) h)
      ∙ rounds_enough k (length (next row)) (next row) (omega (arith, next_length row)) (omega arith)

  pub shrunk_next : (row : List FourBytes) → (length (next row) ≡ length row → ⊥) → shrunk s u number row ≡ shrunk s u number (next row)
  unfolding shrunk
  shrunk_next row h = shrunk_from (length row) row refl h

  -- what holds of a row and is kept by a round holds of the part that is left; no round changes that
  rounds_end : (k : ℕ) (row : List FourBytes) → length row ≤ k → length (next (rounds s u number k row)) ≡ length (rounds s u number k row)
  rounds_end zero row h =
      let z : length (next row) ≡ length row = omega (arith, next_length row) in
      rw (rounds_settled zero row z) z
  rounds_end (suc k) row h =
      split (eqb (length (next row)) (length row))
      (λ e. let z = eqb-true (length (next row)) (length row) e in rw (rounds_settled (suc k) row z) z)
      (λ e. let z = eqb-false (length (next row)) (length row) e in rw (rounds_more k row e) (rounds_end k (next row) (omega (arith, next_length row))))

  pub shrunk_end : (row : List FourBytes) → length (next (shrunk s u number row)) ≡ length (shrunk s u number row)
  unfolding shrunk
  shrunk_end row = rounds_end (length row) row (omega arith)

  pub rounds_keep : (P : List FourBytes → Type 0) → ((row : List FourBytes) → P row → P (next row)) → (k : ℕ) (row : List FourBytes) → P row → P (rounds s u number k row)
  unfolding rounds
  rounds_keep P f zero row h = h
  rounds_keep P f (suc k) row h =
      split (eqb (length (next row)) (length row))
      (λ e. rw (e, rounds) h)
      (λ e. rw (rounds_more k row e) (rounds_keep P f k (next row) (f row h)))

  pub shrunk_keeps : (P : List FourBytes → Type 0) → ((row : List FourBytes) → P row → P (next row)) → (row : List FourBytes) → P row → P (shrunk s u number row)
  unfolding shrunk
  shrunk_keeps P f row h = rounds_keep P f (length row) row h
