-- What is kept over the tables of a prospect is what is kept.
-- Assumes nothing.
use Rattle.laws.proofs.Prelude.{ℕ, zero, suc, ◌+◌, ◌-◌, ◌*◌, ◌^◌, ◌≤◌, ◌<◌, ◌≡◌, refl, sym, ap, ◌∙◌, Bool, true, false, not, ◌&&◌, ◌||◌, List, eqb, ltb, get_or, and-false, not-true, arith}
use mathlib.Core.Bool.{and-true, and_assoc}
use lib.Bits.{bit_or, and_comm, and_le_r}
use Rattle.laws.specs.Booleans.{pick, split}
use Rattle.laws.specs.Below.{all_below, any_below, all_same, any_same}
use Rattle.laws.specs.Mask.{bit, union_below}
use Rattle.laws.specs.Bits.{no_bit}
use Rattle.laws.specs.Sets.{removed, set_below, bit_removed, set_bit, set_small, set_same, set_some}
use Rattle.sheet.specs.Field.{count, parent, opening}
use Rattle.sheet.specs.Setup.{stealth}
use Rattle.sheet.specs.LockHeight.{never}
use Rattle.sheet.specs.Checked.{Checked}
use Rattle.ledger.specs.Coin.{coin_of}
use Rattle.readings.proofs.Coins.{coin_line}
use Rattle.slots.specs.Destination.{is_payee, is_contract}
use Rattle.slots.specs.Ancestry.{is_self_or_ancestor}
use Rattle.slots.proofs.Ancestors.{ancestor_above}
use Rattle.position.specs.declared.Position.{Position}
use Rattle.position.specs.Position.{is_confirmed}
use Rattle.soonest.specs.Soonest.{greater}
use Rattle.soonest.proofs.Bounds.{greater_le}
use Rattle.attainable.specs.Attainable.{gone}
use Rattle.slack.specs.Beaten.{above, fixed, signs, pooled, any_late, stands, beats, last}
use Rattle.slack.specs.Kept.{known_at, unbeaten, free, comes_for_party, good_child, elsewhere_free, answered, good_by, good_rounds, good, paid, reached, kept_to}
use Rattle.kept.specs.declared.Prospect.{Prospect}
use Rattle.kept.specs.Forms.Prospect.{none, outlasts, parent_of, line_of, aims_of, only_of, Seen}
use Rattle.kept.specs.Forms.Evaluation.{within, clear_in, reaches_in, is_unmet_in, unmet_in, needs_over, aim_in, needs_in, parents_in, good_in, rounds_in, reached_in, kept_in}
use Rattle.kept.proofs.WithinSets.{set_and, set_within, alone_within, bit_union}

-- the tests of `unbeaten` in another order
turned : (a b c d e : Bool) → (a && (b && (c && (d && e)))) ≡ ((b && (c && (a && d))) && e)
turned true true true d e = refl
turned false true true d e = refl
turned a true false d e = and-false a
turned a false c d e = and-false a

unless : (c b : Bool) → (not (not c) || b) ≡ (c || b)
unless true b = refl
unless false b = refl

nothing : (a b : Bool) → (a && (b && false)) ≡ false
nothing true b = and-false b
nothing false b = refl

-- what beats t is met: each way that it is answered
met : (b other only child free : Bool)
    → (not (b && (not (other && only) && not free)) || (child && other)) ≡ (not b || ((other && (only || child)) || free))
met false other only child free = refl
met true true true child free = refl
met true true false true true = refl
met true true false true false = refl
met true true false false true = refl
met true true false false false = refl
met true false only true true = refl
met true false only true false = refl
met true false only false true = refl
met true false only false false = refl

removed_small : (m t : ℕ) → removed m t < 4294967296
unfolding removed
removed_small m t = omega (arith, and_le_r m (4294967295 - 2 ^ t))

module _ (s u : List ℕ) (ok : Checked s) (p : Position) (x : ℕ) (q : Prospect) (see : Seen s u p x q) where
  few : count s ≤ 32
  few = ok.sized.few

  -- those that stand and are unbeaten
  clear_bit : (t know at k : ℕ) → t < count s → k < count s → eqb (coin_of s k) (coin_of s t) ≡ false → at < none
      → bit (clear_in q.lacks q.until q.count t know at) k ≡ unbeaten s u p x know (above s p t) at k
  unfolding clear_in unbeaten stands outlasts
  clear_bit t know at k l m e h =
      rw see.count_is
      (set_bit (count s) (λ j. within (get_or q.lacks j 0) know && ltb at (get_or q.until (32 * t + j) 0)) few k m
      ∙ rw ((see.each k m).lacks_tells know, (see.each t l).until_tells k m e at h)
      (turned (signs s p x know k || pooled s p x k) (not (gone s p k)) (is_contract s k || is_payee s k x)
      (not (eqb (stealth u) 0) || (pooled s p x k || not (any_late s u p x at k))) (not (any_below (count s) (beats s u p x (above s p t) at k)))))

  clear_small : (t know at : ℕ) → clear_in q.lacks q.until q.count t know at < 4294967296
  unfolding clear_in
  clear_small t know at =
      set_small 32 q.count (λ j. within (get_or q.lacks j 0) know && ltb at (get_or q.until (32 * t + j) 0)) see.bounded.few

  -- the line of one of another coin
  line_clear : (t know at w : ℕ) → t < count s → w < count s → at < none → not (eqb (coin_of s w) (coin_of s t)) ≡ true
      → within (get_or q.line w 0) (clear_in q.lacks q.until q.count t know at)
      ≡ all_below (count s) (λ k. not (is_self_or_ancestor s k w) || (is_confirmed p k || unbeaten s u p x know (above s p t) at k))
  unfolding line_of
  line_clear t know at w l m h e =
      rw (see.each w m).line_is
      (set_within (count s) (λ k. is_self_or_ancestor s k w && not (is_confirmed p k)) (clear_in q.lacks q.until q.count t know at) few (clear_small t know at)
      ∙ all_same (count s)
      (λ k. not (is_self_or_ancestor s k w && not (is_confirmed p k)) || bit (clear_in q.lacks q.until q.count t know at) k)
      (λ k. not (is_self_or_ancestor s k w) || (is_confirmed p k || unbeaten s u p x know (above s p t) at k))
      (λ k i.
      split (is_self_or_ancestor s k w)
      (λ y.
      let c : coin_of s k ≡ coin_of s w = coin_line s ok (ancestor_above s k w y) m in
      let d : eqb (coin_of s k) (coin_of s t) ≡ false = rw c (not-true (eqb (coin_of s w) (coin_of s t)) e) in
      rw (y, clear_bit t know at k l i d h) (unless (is_confirmed p k) (unbeaten s u p x know (above s p t) at k)))
      (λ y. rw y refl)))

  -- a free line of another coin
  reaches_is : (t know at : ℕ) → t < count s → at < none
      → reaches_in q.line q.count (get_or q.aims t 0) (clear_in q.lacks q.until q.count t know at)
      ≡ any_below (count s) (λ w. not (eqb (coin_of s w) (coin_of s t)) && free s u p x know (above s p t) at w)
  unfolding reaches_in aims_of free
  reaches_is t know at l h =
      ap (λ (n : ℕ). any_below n (λ w. bit (get_or q.aims t 0) w && within (get_or q.line w 0) (clear_in q.lacks q.until q.count t know at))) see.count_is
      ∙ any_same (count s)
      (λ w. bit (get_or q.aims t 0) w && within (get_or q.line w 0) (clear_in q.lacks q.until q.count t know at))
      (λ w. not (eqb (coin_of s w) (coin_of s t)) && free s u p x know (above s p t) at w)
      (λ w m.
      let b : bit (get_or q.aims t 0) w ≡ (not (eqb (coin_of s w) (coin_of s t)) && (is_payee s w x && not (is_confirmed p w))) =
      ap (λ (a : ℕ). bit a w) (see.each t l).aims_is
      ∙ set_bit (count s) (λ v. not (eqb (coin_of s v) (coin_of s t)) && (is_payee s v x && not (is_confirmed p v))) few w m in
      split (not (eqb (coin_of s w) (coin_of s t)))
      (λ y. rw (b, y, line_clear t know at w l m h y) (and_assoc (is_payee s w x) (not (is_confirmed p w)) _))
      (λ y. rw (b, y) refl))

  -- the height of t's last block
  at_small : (off t : ℕ) → off + 1 < never → t < count s → greater off (get_or q.ends t 0) + q.stealth < none
  at_small off t h l =
      let e = see.bounded.ending t (rw see.count_is l) in
      let g = greater_le off (get_or q.ends t 0) never (omega arith) e in
      omega (arith, g, see.bounded.stealthy)

  at_is : (off t : ℕ) → off + 1 < never → t < count s → greater off (get_or q.ends t 0) + q.stealth ≡ last s u p x (known_at s p x t) off t
  at_is off t h l = rw see.stealth_is ((see.each t l).ends_tells off h)

  -- r beats t, and is not answered by what does not ask for the good ones
  abbrev unmet : ℕ → ℕ → ℕ → Bool
  unmet off t r =
      is_unmet_in q.lacks q.until q.line q.count (aim_in q off t) (get_or q.beat (32 * t + r) 0) (get_or q.secrets r 0) r

  unmet_is : (off t r : ℕ) → off + 1 < never → t < count s → r < count s
      → unmet off t r ≡ (beats s u p x 0 off t r && (not (not (eqb r t) && comes_for_party s u p x t r) && not (elsewhere_free s u p x off t r)))
  unfolding is_unmet_in aim_in only_of elsewhere_free
  unmet_is off t r h l m =
      let o : bit (get_or q.only t 0) r ≡ (not (eqb r t) && comes_for_party s u p x t r) =
      ap (λ (a : ℕ). bit a r) (see.each t l).only_is ∙ set_bit (count s) (λ k. not (eqb k t) && comes_for_party s u p x t k) few r m in
      let e = reaches_is t (bit_or (get_or q.known t 0) (get_or q.secrets r 0)) (greater off (get_or q.ends t 0) + q.stealth) l (at_small off t h l) in
      rw ((see.each t l).beat_tells r m off (omega arith), o, e, at_is off t h l, (see.each t l).known_is, (see.each r m).secrets_is) refl

  -- the parents of the good ones
  parents_bit : (found r : ℕ) → r < count s → bit (parents_in q.up q.count found) r ≡ good_child s found r
  unfolding parents_in good_child parent_of
  parents_bit found r l =
      ap (λ (n : ℕ). bit (union_below n (λ c. pick (bit found c) (get_or q.up c 0) 0)) r) see.count_is
      ∙ bit_union (count s) (λ c. pick (bit found c) (get_or q.up c 0) 0) r
      ∙ any_same (count s) (λ c. bit (pick (bit found c) (get_or q.up c 0) 0) r) (λ c. not (opening s c) && (eqb (parent s c) r && bit found c))
      (λ c m.
      split (bit found c)
      (λ y.
      rw (y, (see.each c m).up_is)
      (set_bit (count s) (λ k. not (opening s c) && eqb (parent s c) k) few r l ∙ ap (λ (b : Bool). not (opening s c) && b) (sym (and-true (eqb (parent s c) r)))))
      (λ y. rw y (no_bit r ∙ sym (nothing (not (opening s c)) (eqb (parent s c) r)))))

  -- what t needs is met
  needs_met : (off t found : ℕ) → off + 1 < never → t < count s
      → within (needs_in q off t) (removed (parents_in q.up q.count found) t)
      ≡ (stands s u p x (known_at s p x t) off t && all_below (count s) (λ r. not (beats s u p x 0 off t r) || answered s u p x off found t r))
  unfolding needs_in needs_over unmet_in aim_in answered
  needs_met off t found h l =
      let parents = parents_in q.up q.count found in
      let f : ltb off (get_or q.fails t 0) ≡ stands s u p x (known_at s p x t) off t = (see.each t l).fails_tells off (omega arith) in
      split (stands s u p x (known_at s p x t) off t)
      (λ y.
      rw (f, y)
      (ap (λ (n : ℕ). within (set_below n (unmet off t)) (removed parents t)) see.count_is
      ∙ set_within (count s) (unmet off t) (removed parents t) few (removed_small parents t)
      ∙ all_same (count s) (λ r. not (unmet off t r) || bit (removed parents t) r) (λ r. not (beats s u p x 0 off t r) || answered s u p x off found t r)
      (λ r m.
      rw (unmet_is off t r h l m, bit_removed parents t r (omega (arith, l, few)) (omega (arith, m, few)), parents_bit found r m)
      (met (beats s u p x 0 off t r) (not (eqb r t)) (comes_for_party s u p x t r) (good_child s found r) (elsewhere_free s u p x off t r)))))
      (λ y. rw (f, y) (alone_within t parents (omega (arith, l, few))))

  -- t is good by a set
  good_is : (off t found : ℕ) → off + 1 < never → t < count s
      → good_in q.contract (needs_in q off t) (parents_in q.up q.count found) t ≡ good_by s u p x off found t
  unfolding good_in good_by
  good_is off t found h l =
      let c : bit q.contract t ≡ is_contract s t = ap (λ (a : ℕ). bit a t) see.contract_is ∙ set_bit (count s) (is_contract s) few t l in
      rw (c, parents_bit found t l, needs_met off t found h l) refl

  -- the rounds
  rounds_are : (off k : ℕ) → off + 1 < never → rounds_in q.up (needs_in q off) q.contract q.count k ≡ good_rounds s u p x off k
  unfolding rounds_in good_rounds
  rounds_are off zero h = refl
  rounds_are off (suc k) h =
      rw (rounds_are off k h)
      (ap (λ (n : ℕ). set_below n (λ t. good_in q.contract (needs_in q off t) (parents_in q.up q.count (good_rounds s u p x off k)) t)) see.count_is
      ∙ set_same (count s)
      (λ t. good_in q.contract (needs_in q off t) (parents_in q.up q.count (good_rounds s u p x off k)) t)
      (good_by s u p x off (good_rounds s u p x off k))
      (λ t l. good_is off t (good_rounds s u p x off k) h l))

  rounds_small : (off k : ℕ) → good_rounds s u p x off k < 4294967296
  unfolding good_rounds
  rounds_small off zero = omega arith
  rounds_small off (suc k) = set_small 32 (count s) (good_by s u p x off (good_rounds s u p x off k)) few

  -- those that are reached
  pub reached_is : (off : ℕ) → off + 1 < never → reached_in q off ≡ set_below (count s) (reached s u p x off)
  unfolding reached_in reached good
  reached_is off h =
      rw (rounds_are off q.count h, see.count_is, see.fixed_is)
      (and_comm (good_rounds s u p x off (count s)) (set_below (count s) (fixed s p))
      ∙ set_and (count s) (fixed s p) (good_rounds s u p x off (count s)) few (rounds_small off (count s)))

  pub kept_is : (off : ℕ) → off + 1 < never → kept_in q off ≡ kept_to s u p x off
  unfolding kept_in kept_to
  kept_is off h =
      ap (λ (b : Bool). b || not (eqb (reached_in q off) 0)) see.paid_is
      ∙ ap (λ (b : Bool). paid s p x || b) (ap (λ (m : ℕ). not (eqb m 0)) (reached_is off h) ∙ set_some (count s) (reached s u p x off) few)
