-- Slots with the parties renamed, after each change of a slot.
-- Assumes nothing.
use Rattle.laws.proofs.Prelude.{ℕ, zero, suc, ◌<◌, ◌≡◌, refl, sym, ap, ◌∙◌, Bool, true, false, not, ◌&&◌, ◌||◌, false≢true, List, eqb, arith, not-suc-le-zero}
use Rattle.laws.proofs.Prelude.{le_of_suc-le-suc, eq-or-lt_of_le, or-false, bit_or, pick, either, bit, union_below, no_bit, joined, bit_joined}
use Rattle.position.proofs.Rules.{Slot, alice, bob, carol, contract, destinations, empty_slot, standing, entry_to, with_pool, with_block, with_confirmed, shared_for}
use Rattle.position.proofs.Rules.{with_shared, shared_any, marks_of, marked_for, with_mark, exposed_mask, confirm_entry}
use lib.Bits.{or_comm, or_zero_r}
use Rattle.laws.specs.Unions.{or_assoc, or_swap, or_again}
use Rattle.sheet.specs.Field.{miner}
use Rattle.claim_parties.specs.Renaming.{Renaming, renamed_entry, RenamedSlot}
use Rattle.claim_parties.proofs.RenamedNumbers.{number_same, miner_number, known, known_back, entry_standing, entry_to_lem, entry_none}

-- a union has each of its members, and is the least mask that does
union_member : (n : ℕ) (f : ℕ → ℕ) (k : ℕ) → k < n → bit_or (union_below n f) (f k) ≡ union_below n f
unfolding union_below
union_member zero f k l = absurd (not-suc-le-zero l)
union_member (suc n) f k l =
    either (eq-or-lt_of_le (le_of_suc-le-suc l))
    (λ e. rw e (or_again (union_below n f) (f n)))
    (λ m. or_swap (union_below n f) (f n) (f k) ∙ ap (λ (x : ℕ). bit_or x (f n)) (union_member n f k m))

union_within : (n : ℕ) (f : ℕ → ℕ) (m : ℕ) → ((k : ℕ) → k < n → bit_or m (f k) ≡ m) → bit_or m (union_below n f) ≡ m
unfolding union_below
union_within zero f m h = or_zero_r m
union_within (suc n) f m h =
    sym (or_assoc m (union_below n f) (f n))
    ∙ ap (λ (x : ℕ). bit_or x (f n)) (union_within n f m (λ k l. h k (omega arith)))
    ∙ h n (omega arith)

-- what is shared for a destination after a share, and whether a mark stands after one more is made
shared_with : (d m : ℕ) (x : Slot) (e : ℕ) → e < destinations → shared_for (with_shared d m x) e ≡ pick (eqb d e) (bit_or (shared_for x e) m) (shared_for x e)
unfolding shared_for with_shared
shared_with d m x zero l = refl
shared_with d m x (suc zero) l = refl
shared_with d m x (suc (suc zero)) l = refl
shared_with d m x (suc (suc (suc zero))) l = refl
shared_with d m x (suc (suc (suc (suc e)))) l = absurd (omega arith)

marked_with : (p d : ℕ) (x : Slot) (a e : ℕ) → d < destinations → a < destinations → e < destinations
    → marked_for (with_mark p d x) a e ≡ (marked_for x a e || ((not (eqb a miner) && eqb p a) && eqb e d))
unfolding marked_for marks_of with_mark joined
marked_with p d x zero e k l m = bit_joined x.alice_made (eqb p alice) d e (omega (arith, k)) (omega (arith, m))
marked_with p d x (suc zero) e k l m = bit_joined x.bob_made (eqb p bob) d e (omega (arith, k)) (omega (arith, m))
marked_with p d x (suc (suc zero)) e k l m = sym (or-false (bit 0 e))
marked_with p d x (suc (suc (suc zero))) e k l m = bit_joined x.carol_made (eqb p carol) d e (omega (arith, k)) (omega (arith, m))
marked_with p d x (suc (suc (suc (suc a)))) e k l m = absurd (omega arith)

none_picked : (b : Bool) (n : ℕ) → n ≡ 0 → pick b 0 n ≡ 0
none_picked true n e = refl
none_picked false n e = e

none_shared : (d : ℕ) → shared_for empty_slot d ≡ 0
unfolding shared_for
none_shared d = none_picked (eqb d alice) _ (none_picked (eqb d bob) _ (none_picked (eqb d contract) _ refl))

none_marks : (a : ℕ) → marks_of empty_slot a ≡ 0
unfolding marks_of
none_marks a = none_picked (eqb a alice) _ (none_picked (eqb a bob) _ (none_picked (eqb a carol) _ refl))

none_marked : (a d : ℕ) → marked_for empty_slot a d ≡ false
unfolding marked_for
none_marked a d = ap (λ (m : ℕ). bit m d) (none_marks a) ∙ no_bit d

module _ (ρ : Renaming) where
  -- nothing happened
  pub none_renamed : RenamedSlot ρ empty_slot empty_slot
  unfolding renamed_entry
  none_renamed =
      record {
        pools = refl;
        blocks = refl;
        heights = refl;
        confirmations = λ h. absurd (false≢true h);
        shares = λ d l. none_shared (ρ.to d) ∙ sym (none_shared d);
        marks = λ a d l m. none_marked (ρ.to a) (ρ.to d) ∙ sym (none_marked a d);
      }

  -- the chosen ones
  pub picked_both : (b c : Bool) {x y x' y' : Slot} → c ≡ b → (b ≡ true → RenamedSlot ρ x x') → RenamedSlot ρ y y' → RenamedSlot ρ (pick b x y) (pick c x' y')
  picked_both true c e f g = rw e (f refl)
  picked_both false c e f g = rw e g

  module _ (x y : Slot) (r : RenamedSlot ρ x y) where
    pub any_same : shared_any y ≡ shared_any x
    unfolding shared_any
    any_same =
        let f = shared_for x in
        let g = shared_for y in
        let m = union_below destinations f in
        let n = union_below destinations g in
        sym (union_within destinations f n (λ k l. ap (bit_or n) (sym (r.shares k l)) ∙ union_member destinations g (ρ.to k) (known ρ k l)))
        ∙ or_comm n m
        ∙ union_within destinations g m
        (λ k l.
        ap (λ (i : ℕ). bit_or m (g i)) (sym (ρ.back k))
        ∙ ap (bit_or m) (r.shares (ρ.from k) (known_back ρ k l))
        ∙ union_member destinations f (ρ.from k) (known_back ρ k l))

    pub with_pool_lem : (e e' : ℕ) → e' ≡ renamed_entry ρ e → RenamedSlot ρ (with_pool e x) (with_pool e' y)
    unfolding with_pool shared_for marked_for marks_of
    with_pool_lem e e' h =
        record { pools = h; blocks = r.blocks; confirmations = r.confirmations; heights = r.heights; shares = r.shares; marks = r.marks }

    pub with_block_lem : (e e' : ℕ) → e' ≡ renamed_entry ρ e → RenamedSlot ρ (with_block e x) (with_block e' y)
    unfolding with_block shared_for marked_for marks_of
    with_block_lem e e' h =
        record { pools = r.pools; blocks = h; confirmations = r.confirmations; heights = r.heights; shares = r.shares; marks = r.marks }

    pub with_confirmed_lem : (e e' b b' : ℕ) → entry_to e' ≡ ρ.to (entry_to e) → b' ≡ b → RenamedSlot ρ (with_confirmed e b x) (with_confirmed e' b' y)
    unfolding with_confirmed shared_for marked_for marks_of
    with_confirmed_lem e e' b b' h k =
        record { pools = r.pools; blocks = r.blocks; confirmations = λ z. h; heights = k; shares = r.shares; marks = r.marks }

    shared_again : (d d' m m' : ℕ) → d' ≡ ρ.to d → m' ≡ m → (e : ℕ) → e < destinations
        → shared_for (with_shared d' m' y) (ρ.to e) ≡ shared_for (with_shared d m x) e
    shared_again d d' m m' h k e l =
        rw (h, k) (shared_with (ρ.to d) m y (ρ.to e) (known ρ e l) ∙ rw (number_same ρ d e, r.shares e l) refl ∙ sym (shared_with d m x e l))

    pub with_shared_lem : (d d' m m' : ℕ) → d' ≡ ρ.to d → m' ≡ m → RenamedSlot ρ (with_shared d m x) (with_shared d' m' y)
    unfolding with_shared marked_for marks_of
    with_shared_lem d d' m m' h k =
        record {
          pools = r.pools;
          blocks = r.blocks;
          confirmations = r.confirmations;
          heights = r.heights;
          shares = shared_again d d' m m' h k;
          marks = r.marks;
        }

    marked_again : (p d : ℕ) → d < destinations → (a e : ℕ) → a < destinations → e < destinations
        → marked_for (with_mark (ρ.to p) (ρ.to d) y) (ρ.to a) (ρ.to e) ≡ marked_for (with_mark p d x) a e
    marked_again p d n a e l m =
        marked_with (ρ.to p) (ρ.to d) y (ρ.to a) (ρ.to e) (known ρ d n) (known ρ a l) (known ρ e m)
        ∙ rw (r.marks a e l m, miner_number ρ a, number_same ρ p a, number_same ρ e d) refl
        ∙ sym (marked_with p d x a e n l m)

    pub with_mark_lem : (p d : ℕ) → d < destinations → RenamedSlot ρ (with_mark p d x) (with_mark (ρ.to p) (ρ.to d) y)
    unfolding with_mark shared_for
    with_mark_lem p d n =
        record {
          pools = r.pools;
          blocks = r.blocks;
          confirmations = r.confirmations;
          heights = r.heights;
          shares = r.shares;
          marks = marked_again p d n;
        }

  -- a block entry that is confirmed
  pub confirm_renamed : (s : List ℕ) (b b' t : ℕ) → b' ≡ b → (x y : Slot) → RenamedSlot ρ x y → RenamedSlot ρ (confirm_entry s b t x) (confirm_entry s b' t y)
  unfolding confirm_entry
  confirm_renamed s b b' t h x y r =
      picked_both (standing x.block) (standing y.block)
      (ap standing r.blocks ∙ entry_standing ρ x.block)
      (λ e.
      let m = exposed_mask s t in
      let z : entry_to y.block ≡ ρ.to (entry_to x.block) = ap entry_to r.blocks ∙ entry_to_lem ρ x.block e in
      with_block_lem _ _
      (with_confirmed_lem _ _
      (with_shared_lem x y r (entry_to x.block) (entry_to y.block) m m z refl)
      x.block y.block b b' z h)
      0 0 (entry_none ρ))
      r
