-- A step of four bytes and the same with the parties renamed.
-- Assumes nothing.
use Rattle.laws.proofs.Prelude.{ℕ, zero, suc, ◌%◌, ◌≤◌, ◌<◌, ◌≡◌, refl, sym, ap, ◌∙◌, Bool, true, false, ◌&&◌, and-false, List, eqb, ltb, eqb-true, eqb-false, ltb-true}
use Rattle.laws.proofs.Prelude.{ltb-false, ne_eqb, arith, pick, split, either, clash, and_parts, or_parts}
use Rattle.position.proofs.Rules.{accepted, byte, count, conduct, Destination, Alice, Bob, Contract, Carol, Step, Share, Give, SendToPool, HandToMiner, Include, Mine}
use Rattle.position.proofs.Rules.{Bump, destinations, destination_number, is_party, Option, Some, None, no_transaction, sends_to, shares_to, is_other, first_share_fields}
use Rattle.position.proofs.Rules.{fields_right, of_kind, spelled, range_checked, decode, step_refusal, effect, FourBytes, decode_bytes, take_step}
use Rattle.position.specs.declared.Position.{Position}
use Rattle.position.specs.declared.Stepped.{Stepped}
use Rattle.position.proofs.Rules.{take_decoded, step}
use Rattle.sheet.proofs.Parties.{party_small}
use Rattle.position.specs.StepRefusal.{tests}
use Rattle.position.proofs.StepCases.{accepts, refuses}
use Rattle.position.proofs.Decoding.{destination_within}
use Rattle.claim_parties.specs.Renaming.{Renaming, RenamedSheet, Renamed, renamed_step, StepRenamed}
use Rattle.claim_parties.proofs.Rules.{conduct_open, refusal_same, effect_same}
use Rattle.claim_parties.proofs.RenamedNumbers.{number_same, miner_number, known}
use Rattle.claim_parties.proofs.RenamedRules.{share_tests_lem, give_tests_lem, pool_tests_lem, miner_tests_lem, include_tests_lem, mine_tests_lem, bump_tests_lem}
use Rattle.claim_parties.proofs.RenamedRules.{share_renamed, give_renamed, send_renamed, hand_renamed, include_renamed, mine_renamed, bump_renamed}

-- the destination of a number
unfoldable numbered : ℕ → Destination
numbered d = pick (eqb d 0) Alice (pick (eqb d 1) Bob (pick (eqb d 2) Contract Carol))

number_of : (d : ℕ) → d < destinations → destination_number (numbered d) ≡ d
unfolding numbered destination_number
number_of zero l = refl
number_of (suc zero) l = refl
number_of (suc (suc zero)) l = refl
number_of (suc (suc (suc zero))) l = refl
number_of (suc (suc (suc (suc d)))) l = absurd (omega arith)

spelled_known : (k a t d : ℕ) → d < destinations → spelled k a t d ≡ of_kind k a t (numbered d)
unfolding numbered spelled
spelled_known k a t zero l = refl
spelled_known k a t (suc zero) l = refl
spelled_known k a t (suc (suc zero)) l = refl
spelled_known k a t (suc (suc (suc zero))) l = refl
spelled_known k a t (suc (suc (suc (suc d)))) l = absurd (omega arith)

spelled_unknown : (k a t d : ℕ) → destinations ≤ d → spelled k a t d ≡ None
unfolding spelled
spelled_unknown k a t d l =
    rw (ne_eqb d 0 (λ z. omega (arith, z)), ne_eqb d 1 (λ z. omega (arith, z)), ne_eqb d 2 (λ z. omega (arith, z)), ne_eqb d 3 (λ z. omega (arith, z)))

-- no sheet has transaction 255
listed_not_none : (s : List ℕ) (t : ℕ) → ltb t (count s) ≡ true → eqb t no_transaction ≡ false
unfolding count
listed_not_none s t h = ne_eqb t no_transaction (λ z. omega (arith, z, ltb-true t (byte s 0 % 128) h))

-- what holds of both pairs holds of the chosen ones
pair_picked : (P : Option Step → Option Step → Type 0) (b : Bool) {x y x' y' : Option Step} → P x x' → P y y' → P (pick b x y) (pick b x' y')
pair_picked P true h k = h
pair_picked P false h k = k

module _ (ρ : Renaming) (s w u : List ℕ) (c : RenamedSheet ρ s w) (o : conduct u ≡ 0) where
  -- a test of a transaction of the sheet
  listed_same : (t : ℕ) (x y : Bool) → (t < count s → y ≡ x) → (ltb t (count w) && y) ≡ (ltb t (count s) && x)
  listed_same t x y e =
      rw c.transactions.counts (split (ltb t (count s)) (λ h. rw (h, e (ltb-true t (count s) h)) refl) (λ h. rw h refl))

  sends_same : (a t d : ℕ) → t < count s → sends_to w (ρ.to a) t (ρ.to d) ≡ sends_to s a t d
  unfolding sends_to
  sends_same a t d l = rw (c.contracts t l, miner_number ρ d, number_same ρ d a, c.payees t a l)

  shares_same : (t d : ℕ) → t < count s → shares_to w t (ρ.to d) ≡ shares_to s t d
  unfolding shares_to
  shares_same t d l = rw (c.contracts t l, miner_number ρ d, c.parties d, c.payees t d l)

  listed_sends : (a t d : ℕ) → (ltb t (count w) && sends_to w (ρ.to a) t (ρ.to d)) ≡ (ltb t (count s) && sends_to s a t d)
  listed_sends a t d = listed_same t (sends_to s a t d) (sends_to w (ρ.to a) t (ρ.to d)) (sends_same a t d)

  listed_shares : (t d : ℕ) → (ltb t (count w) && shares_to w t (ρ.to d)) ≡ (ltb t (count s) && shares_to s t d)
  listed_shares t d = listed_same t (shares_to s t d) (shares_to w t (ρ.to d)) (shares_same t d)

  other_same : (a d : ℕ) → is_other w (ρ.to a) (ρ.to d) ≡ is_other s a d
  unfolding is_other
  other_same a d = rw (c.parties d, number_same ρ d a)

  first_same : (t d : ℕ) → first_share_fields u t (ρ.to d) ≡ first_share_fields u t d
  unfolding first_share_fields
  first_same t d = rw (miner_number ρ d)

  -- under open conduct a share names a transaction of the sheet
  first_none : (t d : ℕ) → first_share_fields u t d ≡ false
  unfolding first_share_fields
  first_none t d = rw o (and-false (eqb t no_transaction))

  share_none : (a t : ℕ) (to : Destination) → fields_right s u (Share a t to) ≡ true → eqb t no_transaction ≡ false
  unfolding fields_right
  share_none a t to h =
      either (or_parts (ltb t (count s) && shares_to s t (destination_number to)) (first_share_fields u t (destination_number to)) (and_parts (is_party s a) _ h).1)
      (λ y. listed_not_none s t (and_parts (ltb t (count s)) _ y).0)
      (λ y. clash y (first_none t (destination_number to)))

  module _ (p q : Position) (r : Renamed ρ p q) where
    -- what is to be shown of two decoded steps
    Both : Stepped → Stepped → Type 0
    Both x y = (y.refusal ≡ x.refusal) × Renamed ρ x.position y.position

    Related : Option Step → Option Step → Type 0
    Related x y = Both (take_decoded s u p (range_checked s u x)) (take_decoded w u q (range_checked w u y))

    none_related : Related None None
    unfolding range_checked take_decoded Related Both
    none_related = (refl, r)

    -- the same tests, and positions afterwards that are related
    taken_both : (x y : Step) → tests s u q y ≡ tests s u p x → Renamed ρ (effect s p x) (effect s q y) → Both (take_step s u p x) (take_step w u q y)
    unfolding Both step_refusal
    taken_both x y e f =
        let m = step_refusal s u p x in
        let g : step_refusal w u q y ≡ m = refusal_same s w c.transactions u o q y ∙ rw e refl in
        split (eqb m accepted)
        (λ h.
        let z = eqb-true m accepted h in
        rw (sym (accepts s u p x 0 (effect s p x) (sym z) refl refl), sym (accepts w u q y 0 (effect s q y) (sym (g ∙ z)) refl (sym (effect_same s w c.transactions q y))))
        (refl, f))
        (λ h.
        let n = eqb-false m accepted h in
        rw (sym (refuses s u p x m refl n), sym (refuses w u q y m (sym g) n)) (refl, r))

    read_both : (x y : Step) → fields_right w u y ≡ fields_right s u x → (fields_right s u x ≡ true → Both (take_step s u p x) (take_step w u q y)) → Related (Some x) (Some y)
    unfolding range_checked take_decoded Related
    read_both x y e f =
        split (fields_right s u x)
        (λ h. rw (h, e ∙ h) (f h))
        (λ h. rw (h, e ∙ h) none_related)

    module _ (a t : ℕ) (to too : Destination) (n : destination_number too ≡ ρ.to (destination_number to)) where
      d : ℕ
      d = destination_number to

      in_range : (rest : Bool) → (is_party s a && rest) ≡ true → a < destinations
      in_range rest h = party_small s a (and_parts (is_party s a) rest h).0

      share_both : Related (Some (Share a t to)) (Some (Share (ρ.to a) t too))
      unfolding fields_right tests effect d
      share_both =
          read_both (Share a t to) (Share (ρ.to a) t too)
          (rw (n, c.parties a, listed_shares t (destination_number to), first_same t (destination_number to)) refl)
          (λ h.
          let l = in_range _ h in
          let z = share_none a t to h in
          taken_both (Share a t to) (Share (ρ.to a) t too)
          (rw (conduct_open u o s q (Share (ρ.to a) t too), conduct_open u o s p (Share a t to), n) (share_tests_lem ρ s u p q r a t d l (destination_within to) z))
          (rw n (share_renamed ρ s u p q r a t d l (destination_within to) z)))

      give_both : Related (Some (Give a t to)) (Some (Give (ρ.to a) t too))
      unfolding fields_right tests effect d
      give_both =
          read_both (Give a t to) (Give (ρ.to a) t too)
          (rw (n, c.parties a, c.transactions.signatures_same, other_same a (destination_number to)) refl)
          (λ h.
          let l = in_range _ h in
          taken_both (Give a t to) (Give (ρ.to a) t too)
          (rw (conduct_open u o s q (Give (ρ.to a) t too), conduct_open u o s p (Give a t to), n) (give_tests_lem ρ s u p q r a t d l (destination_within to)))
          (rw n (give_renamed ρ s u p q r a t d l (destination_within to))))

      send_both : Related (Some (SendToPool a t to)) (Some (SendToPool (ρ.to a) t too))
      unfolding fields_right tests effect d
      send_both =
          read_both (SendToPool a t to) (SendToPool (ρ.to a) t too)
          (rw (n, c.parties a, listed_sends a t (destination_number to)) refl)
          (λ h.
          let l = in_range _ h in
          taken_both (SendToPool a t to) (SendToPool (ρ.to a) t too)
          (rw (conduct_open u o s q (SendToPool (ρ.to a) t too), conduct_open u o s p (SendToPool a t to), n) (pool_tests_lem ρ s u p q r a t d l (destination_within to)))
          (rw n (send_renamed ρ s u p q r a t d l (destination_within to))))

      hand_both : Related (Some (HandToMiner a t to)) (Some (HandToMiner (ρ.to a) t too))
      unfolding fields_right tests effect d
      hand_both =
          read_both (HandToMiner a t to) (HandToMiner (ρ.to a) t too)
          (rw (n, c.parties a, listed_sends a t (destination_number to)) refl)
          (λ h.
          let l = in_range _ h in
          taken_both (HandToMiner a t to) (HandToMiner (ρ.to a) t too)
          (rw (conduct_open u o s q (HandToMiner (ρ.to a) t too), conduct_open u o s p (HandToMiner a t to), n) (miner_tests_lem ρ s u p q r a t d l (destination_within to)))
          (rw n (hand_renamed ρ s u p q r a t d l (destination_within to))))

      include_both : Related (Some (Include a t to)) (Some (Include (ρ.to a) t too))
      unfolding fields_right tests effect
      include_both =
          read_both (Include a t to) (Include (ρ.to a) t too)
          (rw (n, miner_number ρ a, miner_number ρ (destination_number to), c.transactions.counts) refl)
          (λ h. taken_both (Include a t to) (Include (ρ.to a) t too) (include_tests_lem ρ s u p q r t) (include_renamed ρ s u p q r t))

      mine_both : Related (Some (Mine a t to)) (Some (Mine (ρ.to a) t too))
      unfolding fields_right tests effect
      mine_both =
          read_both (Mine a t to) (Mine (ρ.to a) t too)
          (rw (n, miner_number ρ a, miner_number ρ (destination_number to)) refl)
          (λ h. taken_both (Mine a t to) (Mine (ρ.to a) t too) (mine_tests_lem ρ s u p q r) (mine_renamed ρ s u p q r))

      bump_both : Related (Some (Bump a t to)) (Some (Bump (ρ.to a) t too))
      unfolding fields_right tests effect
      bump_both =
          read_both (Bump a t to) (Bump (ρ.to a) t too)
          (rw (n, miner_number ρ a, miner_number ρ (destination_number to), c.transactions.counts) refl)
          (λ h. taken_both (Bump a t to) (Bump (ρ.to a) t too) (bump_tests_lem ρ s u p q r t) (bump_renamed ρ s u p q r t))

      kind_both : (kind : ℕ) → Related (of_kind kind a t to) (of_kind kind (ρ.to a) t too)
      unfolding of_kind
      kind_both kind =
          pair_picked Related (eqb kind 1) share_both
          (pair_picked Related (eqb kind 2) give_both
          (pair_picked Related (eqb kind 3) send_both
          (pair_picked Related (eqb kind 4) hand_both
          (pair_picked Related (eqb kind 5) include_both
          (pair_picked Related (eqb kind 6) mine_both
          (pair_picked Related (eqb kind 7) bump_both
          none_related))))))

    spelled_both : (kind a t d : ℕ) → Related (spelled kind a t d) (spelled kind (ρ.to a) t (ρ.to d))
    spelled_both kind a t d =
        split (ltb d destinations)
        (λ y.
        let l : d < destinations = ltb-true d destinations y in
        let m = known ρ d l in
        rw (spelled_known kind a t d l, spelled_known kind (ρ.to a) t (ρ.to d) m)
        (kind_both a t (numbered d) (numbered (ρ.to d)) (number_of (ρ.to d) m ∙ ap ρ.to (sym (number_of d l))) kind))
        (λ y.
        let l : destinations ≤ d = ltb-false d destinations y in
        let m : destinations ≤ ρ.to d = ltb-false (ρ.to d) destinations (ρ.known_stays d ∙ y) in
        rw (spelled_unknown kind a t d l, spelled_unknown kind (ρ.to a) t (ρ.to d) m) none_related)

    pub step_renamed : (b : FourBytes) → StepRenamed ρ s w u p q b
    unfolding step decode_bytes decode renamed_step Related Both
    step_renamed b =
        let x = spelled_both b.kind b.party b.transaction b.destination in
        record { refusal_same = x.0; after = x.1 }
