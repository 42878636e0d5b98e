-- What four bytes that decode to a step tell: they are the step's, and they are in range.
-- Assumes nothing.
use Rattle.std.specs.Prelude.{Option, Some, None}
use Rattle.laws.proofs.Prelude.{ℕ, ◌≤◌, ◌<◌, ◌≡◌, refl, sym, Bool, true, ◌&&◌, List, [], ◌∷◌, ◌⊎◌, inl, inr, eqb, ltb, lit<, lit≤, length, get_or, eqb-true, ltb-true}
use Rattle.laws.proofs.Prelude.{arith, pick, split, either, and_parts, or_parts}
use Rattle.sheet.specs.Field.{count, signatures}
use Rattle.slots.specs.declared.Destination.{Destination}
use Rattle.slots.specs.declared.Destination.TheVariants.{Alice, Bob, Contract, Carol}
use Rattle.slots.specs.declared.Step.{Step}
use Rattle.slots.specs.declared.Step.TheVariants.{Share, Give, SendToPool, HandToMiner, Include, Mine, Bump}
use Rattle.slots.specs.Destination.{miner, destinations, destination_number, is_party}
use Rattle.position.specs.Position.{slot_count}
use Rattle.steps.specs.Decode.{no_transaction, shares_to, first_share_fields, fields_right, of_kind, spelled, range_checked, decode, step_bytes}
use Rattle.position.specs.Open.{kinds}

-- "4 bytes a step"
pub length_step : (x : Step) → length (step_bytes x) ≡ 4
unfolding step_bytes
length_step (Share a t to) = refl
length_step (Give a t to) = refl
length_step (SendToPool a t to) = refl
length_step (HandToMiner a t to) = refl
length_step (Include a t to) = refl
length_step (Mine a t to) = refl
length_step (Bump a t to) = refl

-- what is read from the bytes k a t d, whatever the sheet
data Spelled (k a t d : ℕ) : Option Step → Type 0 where
  is : (x : Step) → step_bytes x ≡ k ∷ a ∷ t ∷ d ∷ [] → 1 ≤ k → k ≤ kinds → d < destinations → Spelled k a t d (Some x)
  not : Spelled k a t d None

pub destination_within : (to : Destination) → destination_number to < destinations
unfolding destination_number
destination_within Alice = lit< tt
destination_within Bob = lit< tt
destination_within Contract = lit< tt
destination_within Carol = lit< tt

module _ (a t : ℕ) (to : Destination) where
  -- kind j, whose step is x
  kind_is : (k j : ℕ) (x : Step) (rest : Option Step) → step_bytes x ≡ j ∷ a ∷ t ∷ destination_number to ∷ [] → 1 ≤ j → j ≤ kinds
      → Spelled k a t (destination_number to) rest → Spelled k a t (destination_number to) (pick (eqb k j) (Some x) rest)
  kind_is k j x rest b l m r =
      split (eqb k j)
      (λ e. rw (e, eqb-true k j e) (is x b l m (destination_within to)))
      (λ e. rw e r)

  spelled_kind : (k : ℕ) → Spelled k a t (destination_number to) (of_kind k a t to)
  unfolding of_kind step_bytes
  spelled_kind k =
      kind_is k 1 (Share a t to) _ refl (lit≤ tt) (lit≤ tt)
      (kind_is k 2 (Give a t to) _ refl (lit≤ tt) (lit≤ tt)
      (kind_is k 3 (SendToPool a t to) _ refl (lit≤ tt) (lit≤ tt)
      (kind_is k 4 (HandToMiner a t to) _ refl (lit≤ tt) (lit≤ tt)
      (kind_is k 5 (Include a t to) _ refl (lit≤ tt) (lit≤ tt)
      (kind_is k 6 (Mine a t to) _ refl (lit≤ tt) (lit≤ tt)
      (kind_is k 7 (Bump a t to) _ refl (lit≤ tt) (lit≤ tt) not))))))

module _ (k a t d : ℕ) where
  destination_is : (to : Destination) (rest : Option Step) → Spelled k a t d rest → Spelled k a t d (pick (eqb d (destination_number to)) (of_kind k a t to) rest)
  destination_is to rest r =
      split (eqb d (destination_number to))
      (λ e. rw (e, eqb-true d (destination_number to) e) (spelled_kind a t to k))
      (λ e. rw e r)

  spelled_right : Spelled k a t d (spelled k a t d)
  unfolding spelled destination_number
  spelled_right = destination_is Alice _ (destination_is Bob _ (destination_is Contract _ (destination_is Carol _ not)))

-- the bytes of a decoded step, which are in range
pub record Decodes (s u : List ℕ) (k a t d : ℕ) (x : Step) : Type 0 where
  pub bytes : step_bytes x ≡ k ∷ a ∷ t ∷ d ∷ []
  pub kind_some : 1 ≤ k
  pub kind_few : k ≤ kinds
  pub destination_few : d < destinations
  pub fields : fields_right s u x ≡ true

read_same : {x y : Step} → Some x ≡ Some y → x ≡ y
read_same e = cc

checked_is : (s u : List ℕ) (k a t d : ℕ) (x : Step) {y : Option Step} → Spelled k a t d y → range_checked s u y ≡ Some x → Decodes s u k a t d x
unfolding range_checked
checked_is s u k a t d x (is y b l m n) e =
    split (fields_right s u y)
    (λ f.
    let q : y ≡ x = read_same (rw f at e) in
    record { bytes = rw (sym q) b; kind_some = l; kind_few = m; destination_few = n; fields = rw (sym q) f })
    (λ f. let z : ◌≡◌ {A = Option Step} None (Some x) = rw f at e in let w : ◌≡◌ {A = ℕ} 0 1 = cc in absurd (omega arith))
checked_is s u k a t d x not e = let w : ◌≡◌ {A = ℕ} 0 1 = cc in absurd (omega arith)

pub decodes : (s u : List ℕ) (k a t d : ℕ) (x : Step) → decode s u k a t d ≡ Some x → Decodes s u k a t d x
unfolding decode
decodes s u k a t d x e = checked_is s u k a t d x (spelled_right k a t d) e

-- the party and the transaction byte of a step with right fields
pub record Ranges (s : List ℕ) (x : Step) : Type 0 where
  pub party : (is_party s (get_or (step_bytes x) 1 0) ≡ true) ⊎ (get_or (step_bytes x) 1 0 ≡ miner)
  pub transaction : (get_or (step_bytes x) 2 0 < slot_count) ⊎ (get_or (step_bytes x) 2 0 ≡ no_transaction)

module _ (s u : List ℕ) (few : count s ≤ 32) (signed : signatures s ≤ 8) where
  listed : (t : ℕ) (b : Bool) → (ltb t (count s) && b) ≡ true → t < slot_count
  listed t b h = omega (arith, ltb-true t (count s) (and_parts (ltb t (count s)) b h).0)

  -- a step of a party, of the miner: a test of the party byte, then one of the others
  by_party : (x : Step) (b : Bool) → (is_party s (get_or (step_bytes x) 1 0) && b) ≡ true
      → (b ≡ true → (get_or (step_bytes x) 2 0 < slot_count) ⊎ (get_or (step_bytes x) 2 0 ≡ no_transaction)) → Ranges s x
  by_party x b h f =
      let w = and_parts (is_party s (get_or (step_bytes x) 1 0)) b h in
      record { party = inl w.0; transaction = f w.1 }

  by_miner : (x : Step) (b : Bool) → (eqb (get_or (step_bytes x) 1 0) miner && b) ≡ true
      → (b ≡ true → (get_or (step_bytes x) 2 0 < slot_count) ⊎ (get_or (step_bytes x) 2 0 ≡ no_transaction)) → Ranges s x
  by_miner x b h f =
      let w = and_parts (eqb (get_or (step_bytes x) 1 0) miner) b h in
      record { party = inr (eqb-true (get_or (step_bytes x) 1 0) miner w.0); transaction = f w.1 }

  pub ranges : (x : Step) → fields_right s u x ≡ true → Ranges s x
  unfolding fields_right step_bytes first_share_fields
  ranges (Share a t to) h =
      by_party (Share a t to) _ h
      (λ f.
      either (or_parts (ltb t (count s) && shares_to s t (destination_number to)) _ f)
      (λ l. inl (listed t _ l))
      (λ e. inr (eqb-true t no_transaction (and_parts (eqb t no_transaction) _ e).0)))
  ranges (Give a i to) h =
      by_party (Give a i to) _ h (λ f. inl (omega (arith, ltb-true i (signatures s) (and_parts (ltb i (signatures s)) _ f).0)))
  ranges (SendToPool a t to) h = by_party (SendToPool a t to) _ h (λ f. inl (listed t _ f))
  ranges (HandToMiner a t to) h = by_party (HandToMiner a t to) _ h (λ f. inl (listed t _ f))
  ranges (Include a t to) h = by_miner (Include a t to) _ h (λ f. inl (listed t _ f))
  ranges (Mine a t to) h = by_miner (Mine a t to) _ h (λ f. inr (eqb-true t no_transaction (and_parts (eqb t no_transaction) _ f).0))
  ranges (Bump a t to) h = by_miner (Bump a t to) _ h (λ f. inl (listed t _ f))
