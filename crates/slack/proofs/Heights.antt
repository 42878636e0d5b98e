-- A rival's lock height and one's own, over numbers: what holds of them with the parent in a later block, up to a height, holds with it in an
-- earlier one, up to a greater height.
-- Assumes nothing.
use Rattle.laws.proofs.Prelude.{ℕ, ◌+◌, ◌≤◌, ◌<◌, ◌≡◌, refl, Bool, true, false, not, ◌&&◌, ◌||◌, ltb, leb, ltb-true, leb-true, leb-false, lt-ltb, le-leb, arith}
use Rattle.laws.specs.Booleans.{pick, split, either, and_parts, or_parts, or_right}
use Rattle.soonest.specs.Soonest.{greater}
use Rattle.soonest.proofs.Bounds.{greater_right, greater_le, greater_mono}
use Rattle.slack.specs.Beaten.{locked_later}

-- `late` and `sooner` over what they ask for: whether t is in the pool and its parent there, whether the rival and t are locked since the parent,
-- whether it can come, and the heights
unfoldable pub late_by : Bool → Bool → Bool → Bool → ℕ → ℕ → ℕ → Bool
late_by there his-since since runs own his off =
    pick there
    (locked_later own his off)
    (pick his-since
    (runs && pick since (locked_later own his off) (leb (greater his (own + 1)) off))
    (ltb own his && (not since || (runs && leb his off))))

unfoldable pub sooner_by : Bool → Bool → Bool → Bool → ℕ → ℕ → ℕ → Bool
sooner_by pool there his-since runs own his off =
    pick pool
    (leb his own)
    (pick there
    (leb his (greater off own))
    (not his-since || (leb his own || (runs && leb his off))))

locked_parts : (own his off : ℕ) → locked_later own his off ≡ true → (own < his) × (his ≤ off)
unfolding locked_later
locked_parts own his off h = let w = and_parts (ltb own his) (leb his off) h in (ltb-true own his w.0, leb-true his off w.1)

locked_from : (own his off : ℕ) → own < his → his ≤ off → locked_later own his off ≡ true
unfolding locked_later
locked_from own his off a b = rw (lt-ltb own his a, le-leb his off b)

greater_upto : (a b c : ℕ) → c ≤ greater a b → b < c → c ≤ a
unfolding greater
greater_upto a b c h l = split (ltb a b) (λ y. absurd (let k : c ≤ b = rw y at h in omega arith)) (λ y. rw y at h)

-- the parent is in one block, and up to a greater height
module _ (own his off more : ℕ) (l : off ≤ more) where
  locked_more : locked_later own his off ≡ true → locked_later own his more ≡ true
  locked_more h = let w = locked_parts own his off h in locked_from own his more w.0 (omega (arith, w.1))

  pub late_more : (his-since since a b : Bool) → late_by true his-since since a own his off ≡ true → late_by true his-since since b own his more ≡ true
  unfolding late_by
  late_more his-since since a b h = locked_more h

  pub sooner_more : (his-since a b : Bool) → sooner_by false true his-since a own his off ≡ true → sooner_by false true his-since b own his more ≡ true
  unfolding sooner_by
  sooner_more his-since a b h =
      let x = leb-true his (greater off own) h in
      let y = greater_mono off own more own l (omega arith) in
      le-leb his (greater more own) (omega arith)

  -- before the parent is there, where it can come
  pub late_first : (his-since since a : Bool) → late_by true his-since since a own his off ≡ true → late_by false his-since since true own his more ≡ true
  unfolding late_by
  late_first true true a h = locked_more h
  late_first true false a h =
      let w = locked_parts own his off h in
      le-leb (greater his (own + 1)) more (greater_le his (own + 1) more (omega (arith, w.1)) (omega (arith, w.0, w.1)))
  late_first false true a h = let w = locked_parts own his off h in rw (lt-ltb own his w.0) (le-leb his more (omega (arith, w.1)))
  late_first false false a h = let w = locked_parts own his off h in rw (lt-ltb own his w.0)

  pub sooner_first : (his-since a : Bool) → sooner_by false true his-since a own his off ≡ true → sooner_by false false his-since true own his more ≡ true
  unfolding sooner_by
  sooner_first his-since a h =
      let x = leb-true his (greater off own) h in
      or_right (not his-since) (leb his own || leb his more)
      (split (leb his own)
      (λ y. rw y)
      (λ y. or_right (leb his own) (leb his more) (le-leb his more (below (leb-false his own y) x))))
    where
      below : own < his → his ≤ greater off own → his ≤ more
      below a b = let c = greater_upto off own his b a in omega arith

-- the lock heights of t and of its rival with the parent in a block, and the same in a later one
pub record Shift (since his-since : Bool) (own his own' his' : ℕ) : Type 0 where
  pub own_rises : own ≤ own'
  pub his_rises : his ≤ his'
  pub own_same : since ≡ false → own' ≡ own
  pub his_same : his-since ≡ false → his' ≡ his
  pub alike : since ≡ true → his-since ≡ true → own + his' ≡ own' + his

module _ (own his own' his' off more : ℕ) (l : off ≤ more) (a b : Bool) (runs : b ≡ true → a ≡ true) where
  pub late_before : (his-since since : Bool) → Shift since his-since own his own' his' → late_by false his-since since b own' his' off ≡ true
      → late_by false his-since since a own his more ≡ true
  unfolding late_by
  late_before true true e h =
      let w = and_parts b (locked_later own' his' off) h in
      let x = locked_parts own' his' off w.1 in
      rw (runs w.0) (locked_from own his more (omega (arith, x.0, e.alike refl refl)) (omega (arith, x.1, e.his_rises)))
  late_before true false e h =
      let w = and_parts b (leb (greater his' (own' + 1)) off) h in
      let x = leb-true (greater his' (own' + 1)) off w.1 in
      let y = greater_mono his (own + 1) his' (own' + 1) e.his_rises (omega (arith, e.own_rises)) in
      rw (runs w.0) (le-leb (greater his (own + 1)) more (omega arith))
  late_before false true e h =
      let w = and_parts (ltb own' his') (b && leb his' off) h in
      let v = and_parts b (leb his' off) w.1 in
      let x = ltb-true own' his' w.0 in
      let y = leb-true his' off v.1 in
      let z = e.his_same refl in
      let o = e.own_rises in
      rw (lt-ltb own his (omega arith), runs v.0) (le-leb his more (omega arith))
  late_before false false e h =
      let w = and_parts (ltb own' his') true h in
      let x = ltb-true own' his' w.0 in
      let z = e.his_same refl in
      let o = e.own_rises in
      rw (lt-ltb own his (omega arith))

  -- a rival that is no later stays so
  no_later : (his-since since : Bool) → his-since ≡ true → Shift since his-since own his own' his' → his' ≤ own' → his ≤ own
  no_later his-since true r e h = omega (arith, e.alike refl r)
  no_later his-since false r e h = omega (arith, e.own_same refl, e.his_rises)

  pub sooner_before : (his-since since : Bool) → Shift since his-since own his own' his' → sooner_by false false his-since b own' his' off ≡ true
      → sooner_by false false his-since a own his more ≡ true
  unfolding sooner_by
  sooner_before false since e h = refl
  sooner_before true since e h =
      either (or_parts (leb his' own') (b && leb his' off) h)
      (λ y. rw (le-leb his own (no_later true since refl e (leb-true his' own' y))))
      (λ y.
      let w = and_parts b (leb his' off) y in
      let x = leb-true his' off w.1 in
      let z = e.his_rises in
      or_right (leb his own) (a && leb his more) (rw (runs w.0) (le-leb his more (omega arith))))

-- the pool asks for more
pub sooner_unpooled : (pool there his-since runs : Bool) (own his off : ℕ) → sooner_by pool there his-since runs own his off ≡ true
    → sooner_by false there his-since runs own his off ≡ true
unfolding sooner_by
sooner_unpooled false there his-since runs own his off h = h
sooner_unpooled true true his-since runs own his off h =
    let x = leb-true his own h in
    let y = greater_right off own in
    le-leb his (greater off own) (omega arith)
sooner_unpooled true false his-since runs own his off h = or_right (not his-since) (leb his own || (runs && leb his off)) (rw h)
