-- The rules do not tell the parties apart (document 02, Slip 10: "Prove the rules for a number of parties"): what a renaming of them makes of sheets,
-- journals, positions and reports. To be believed beside the rules: these definitions and the claims at the end.
-- Assumes nothing.
use Rattle.std.specs.Prelude.{ℕ, ◌+◌, ◌*◌, ◌-◌, ◌%◌, ◌<◌, ◌≡◌, true, ◌&&◌, List, [], ◌∷◌, eqb, ltb, leb, length}
use Rattle.laws.specs.Booleans.{pick}
use Rattle.laws.specs.Each.{rewrite_first}
use Rattle.laws.specs.Mask.{bit}
use Rattle.laws.specs.Sets.{set_below}
use Rattle.sheet.specs.Refusal.{accepted}
use Rattle.sheet.specs.Field.{parties, miner, place, party_at, is_party, start_keys, count, signatures, secrets, parent, required, veil, lock_pair}
use Rattle.sheet.specs.Check.{sheet_refusal}
use Rattle.sheet.specs.Setup.{conduct}
use Rattle.slots.specs.declared.Slot.{Slot}
use Rattle.slots.specs.Destination.{destinations, is_payee, is_contract}
use Rattle.slots.specs.Slot.{entry_to, shared_for, marked_for}
use Rattle.position.specs.declared.Position.{Position}
use Rattle.position.specs.Position.{slot, keys, is_confirmed, block_of, lock_height_in, deadline_in}
use Rattle.position.specs.Play.{FourBytes, step, run}
use Rattle.position.specs.Report.{status, payee}

-- other numbers for the parties, each used once: 2, the miner's and the contract's, stays, and so does a number beyond the destinations
-- one beyond them
pub record Renaming : Type 0 where
  pub to : ℕ → ℕ
  pub from : ℕ → ℕ
  pub there : (a : ℕ) → from (to a) ≡ a
  pub back : (a : ℕ) → to (from a) ≡ a
  pub miner_stays : to miner ≡ miner
  pub known_stays : (a : ℕ) → ltb (to a) destinations ≡ ltb a destinations

-- the two sheets have the same transactions but for their payees
pub record SameTransactions (s w : List ℕ) : Type 0 where
  pub counts : count w ≡ count s
  pub signatures_same : signatures w ≡ signatures s
  pub secrets_same : secrets w ≡ secrets s
  pub parents : (t : ℕ) → parent w t ≡ parent s t
  pub needs : (t : ℕ) → required w t ≡ required s t
  pub veils : (t : ℕ) → veil w t ≡ veil s t
  pub locks : lock_pair w ≡ lock_pair s

-- the sheet w is the sheet s with its parties renamed: they start with the same keys and are payees of the same transactions
pub record RenamedSheet (ρ : Renaming) (s w : List ℕ) : Type 0 where
  pub transactions : SameTransactions s w
  pub contracts : (t : ℕ) → t < count s → is_contract w t ≡ is_contract s t
  pub parties : (a : ℕ) → is_party w (ρ.to a) ≡ is_party s a
  pub payees : (t a : ℕ) → t < count s → is_payee w t (ρ.to a) ≡ is_payee s t a
  pub starts : (a : ℕ) → start_keys w (ρ.to a) ≡ start_keys s a

-- the payees of a transaction, renamed: in each party's place stands the bit of the party that has its number now
unfoldable pub renamed_payees : Renaming → ℕ → ℕ
renamed_payees ρ mask = set_below 3 (λ k. bit mask (place (ρ.from (party_at k))))

-- byte i of a sheet of three, renamed: a start mask, the payees of a transaction, or what names no party
unfoldable pub renamed_byte : Renaming → List ℕ → ℕ → ℕ → ℕ
renamed_byte ρ s i x =
    pick (leb 3 i && ltb i 6) (start_keys s (ρ.from (party_at (i - 3))))
    (pick (leb 6 i && (ltb i (6 + 4 * count s) && eqb ((i - 6) % 4) 1)) (renamed_payees ρ x) x)

-- such a sheet, renamed
unfoldable pub renamed_sheet : Renaming → List ℕ → List ℕ
renamed_sheet ρ s = rewrite_first (length s) (renamed_byte ρ s) s

-- "kind, party .., transaction, destination": the party and the destination renamed
unfoldable pub renamed_step : Renaming → FourBytes → FourBytes
renamed_step ρ b = record { kind = b.kind; party = ρ.to b.party; transaction = b.transaction; destination = ρ.to b.destination }

-- "a row of 4-byte steps": each renamed
unfoldable pub renamed_journal : Renaming → List ℕ → List ℕ
renamed_journal ρ [] = []
renamed_journal ρ (k ∷ []) = k ∷ []
renamed_journal ρ (k ∷ a ∷ []) = k ∷ a ∷ []
renamed_journal ρ (k ∷ a ∷ t ∷ []) = k ∷ a ∷ t ∷ []
renamed_journal ρ (k ∷ a ∷ t ∷ d ∷ rest) = k ∷ ρ.to a ∷ t ∷ ρ.to d ∷ renamed_journal ρ rest

-- an entry, which is 0 for none or names a destination: that renamed
unfoldable pub renamed_entry : Renaming → ℕ → ℕ
renamed_entry ρ e = pick (eqb e 0) 0 (ρ.to (e - 1) + 1)

-- "its pool entry, block entry, confirmation and shared knowledge", and the shares made, with the parties renamed
pub record RenamedSlot (ρ : Renaming) (x y : Slot) : Type 0 where
  pub pools : y.pool ≡ renamed_entry ρ x.pool
  pub blocks : y.block ≡ renamed_entry ρ x.block
  pub heights : y.height ≡ x.height
  pub confirmations : ltb 0 x.height ≡ true → entry_to y.confirmed ≡ ρ.to (entry_to x.confirmed)
  pub shares : (d : ℕ) → d < destinations → shared_for y (ρ.to d) ≡ shared_for x d
  pub marks : (a d : ℕ) → a < destinations → d < destinations → marked_for y (ρ.to a) (ρ.to d) ≡ marked_for x a d

-- the position q is p with the parties renamed; both with as many slots, and with six places for keys
pub record Renamed (ρ : Renaming) (p q : Position) : Type 0 where
  pub slots_same : (t : ℕ) → RenamedSlot ρ (slot p t) (slot q t)
  pub keys_same : (a : ℕ) → a < destinations → keys q (ρ.to a) ≡ keys p a
  pub mined_same : q.mined ≡ p.mined
  pub places : length q.slots ≡ length p.slots
  pub keys_here : length p.keys ≡ 6
  pub keys_there : length q.keys ≡ 6

-- the same number, so that a step is open where the renamed one is, and the parties renamed in the position
pub record StepRenamed (ρ : Renaming) (s w u : List ℕ) (p q : Position) (b : FourBytes) : Type 0 where
  pub refusal_same : (step w u q (renamed_step ρ b)).refusal ≡ (step s u p b).refusal
  pub after : Renamed ρ (step s u p b).position (step w u q (renamed_step ρ b)).position

-- the same number, as many steps, and the parties renamed in the position
pub record RunRenamed (ρ : Renaming) (s w u j : List ℕ) : Type 0 where
  pub refusal_same : (run w u (renamed_journal ρ j)).refusal ≡ (run s u j).refusal
  pub accepted_same : (run w u (renamed_journal ρ j)).accepted ≡ (run s u j).accepted
  pub after : Renamed ρ (run s u j).position (run w u (renamed_journal ρ j)).position

-- a row of the report, "status .., payee (destination, 255 unconfirmed) .., block or 0, lock height, deadline": the payee renamed, all else the same
pub record RowRenamed (ρ : Renaming) (s w u : List ℕ) (p q : Position) (t : ℕ) : Type 0 where
  pub status_same : status w q t ≡ status s p t
  pub payee_renamed : payee q t ≡ pick (is_confirmed p t) (ρ.to (payee p t)) (payee p t)
  pub block_same : block_of q t ≡ block_of p t
  pub lock_same : lock_height_in w u q t ≡ lock_height_in s u p t
  pub deadline_same : deadline_in w u q t ≡ deadline_in s u p t

-- every step of four bytes, from every position, reachable or not, on sheets of two or three
abbrev pub RenamingOfSteps : Type 0
RenamingOfSteps =
    (ρ : Renaming) (s w u : List ℕ)
    → RenamedSheet ρ s w
    → conduct u ≡ 0
    → (p q : Position)
    → Renamed ρ p q
    → (b : FourBytes)
    → StepRenamed ρ s w u p q b

-- every journal of two sheets that pass the check
abbrev pub RenamingOfRuns : Type 0
RenamingOfRuns =
    (ρ : Renaming) (s w u : List ℕ)
    → RenamedSheet ρ s w
    → sheet_refusal s ≡ accepted
    → sheet_refusal w ≡ accepted
    → conduct u ≡ 0
    → (j : List ℕ)
    → RunRenamed ρ s w u j

-- the reports of all such positions, those after a run among them
abbrev pub RenamingOfReports : Type 0
RenamingOfReports =
    (ρ : Renaming) (s w u : List ℕ)
    → RenamedSheet ρ s w
    → (p q : Position)
    → Renamed ρ p q
    → (t : ℕ)
    → RowRenamed ρ s w u p q t

-- every sheet of three that passes the check has a renamed one, which passes it too
pub record SheetRenamed (ρ : Renaming) (s : List ℕ) : Type 0 where
  pub passes : sheet_refusal (renamed_sheet ρ s) ≡ accepted
  pub renamed : RenamedSheet ρ s (renamed_sheet ρ s)

abbrev pub RenamingOfSheets : Type 0
RenamingOfSheets =
    (ρ : Renaming) (s : List ℕ)
    → parties s ≡ 3
    → sheet_refusal s ≡ accepted
    → SheetRenamed ρ s

-- every journal of such a sheet, under every setup
abbrev pub RenamingOfRings : Type 0
RenamingOfRings =
    (ρ : Renaming) (s u j : List ℕ)
    → parties s ≡ 3
    → sheet_refusal s ≡ accepted
    → RunRenamed ρ s (renamed_sheet ρ s) u j
