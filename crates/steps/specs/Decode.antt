-- Four bytes as a step: "kind, party (0 Alice, 1 Bob, 2 miner), transaction, destination (0 Alice, 1 Bob, 2 contract)", or refusal 11.
-- Document 02, Slip 10: "Carol is party 3 and destination 3".
-- Assumes nothing.
use Rattle.std.specs.Prelude.{ℕ, Bool, not, ◌&&◌, ◌||◌, List, [], ◌∷◌, eqb, ltb, Option, Some, None}
use Rattle.laws.specs.Booleans.{pick}
use Rattle.sheet.specs.Field.{count, signatures}
use Rattle.sheet.specs.Setup.{conduct}
use Rattle.slots.specs.declared.Destination.{Destination}
use Rattle.slots.specs.declared.Destination.TheVariants.{Alice, Bob, Contract, Carol}
use Rattle.slots.specs.declared.Step.{Step}
use Rattle.slots.specs.declared.Step.TheVariants.{Share, Give, SendToPool, HandToMiner, Include, Mine, Bump}
use Rattle.slots.specs.Destination.{miner, contract, destination_number, is_party, is_payee, is_contract}

-- "Mine (transaction 255)", "each as one step (transaction 255, destination 2)"
abbrev pub no_transaction : ℕ
no_transaction = 255

-- "Contract transactions go to 2; paying ones only to the sender, who must be a payee."
unfoldable pub sends_to : List ℕ → ℕ → ℕ → ℕ → Bool
sends_to s party t destination =
    pick (is_contract s t) (eqb destination contract) (eqb destination party && is_payee s t party)

-- "Contract transactions go to 2", and of a share: "A paying one names one of its payees."
unfoldable pub shares_to : List ℕ → ℕ → ℕ → Bool
shares_to s t destination =
    pick (is_contract s t) (eqb destination contract) (is_party s destination && is_payee s t destination)

-- "receiver (the destination, the other party)"; Slip 10: "A key may be given to either other party."
unfoldable pub is_other : List ℕ → ℕ → ℕ → Bool
is_other s party destination = is_party s destination && not (eqb destination party)

-- "255 is right only for kind 6, always, and for kind 1 under conduct 1 and 2", "isn't 2 beside 255"
unfoldable pub first_share_fields : List ℕ → ℕ → ℕ → Bool
first_share_fields u t destination = eqb t no_transaction && (not (eqb (conduct u) 0) && eqb destination contract)

-- "Kinds 1 to 4 have party 0 or 1", or Carol's 3 on a sheet of three; "kinds 5, 6, 7 have party 2 and destination 2. Outside kind 2 a transaction is below n"
unfoldable pub fields_right : List ℕ → List ℕ → Step → Bool
fields_right s u (Share party t to) =
    is_party s party && ((ltb t (count s) && shares_to s t (destination_number to)) || first_share_fields u t (destination_number to))
fields_right s u (Give party i to) = is_party s party && (ltb i (signatures s) && is_other s party (destination_number to))
fields_right s u (SendToPool party t to) = is_party s party && (ltb t (count s) && sends_to s party t (destination_number to))
fields_right s u (HandToMiner party t to) = is_party s party && (ltb t (count s) && sends_to s party t (destination_number to))
fields_right s u (Include party t to) = eqb party miner && (ltb t (count s) && eqb (destination_number to) contract)
fields_right s u (Mine party t to) = eqb party miner && (eqb t no_transaction && eqb (destination_number to) contract)
fields_right s u (Bump party t to) = eqb party miner && (ltb t (count s) && eqb (destination_number to) contract)

-- "a step is one of seven kinds"
unfoldable pub of_kind : ℕ → ℕ → ℕ → Destination → Option Step
of_kind kind party t to =
    pick (eqb kind 1) (Some (Share party t to))
    (pick (eqb kind 2) (Some (Give party t to))
    (pick (eqb kind 3) (Some (SendToPool party t to))
    (pick (eqb kind 4) (Some (HandToMiner party t to))
    (pick (eqb kind 5) (Some (Include party t to))
    (pick (eqb kind 6) (Some (Mine party t to))
    (pick (eqb kind 7) (Some (Bump party t to))
    None))))))

-- "and its destination one of three"; Slip 10: "Carol is .. destination 3"
unfoldable pub spelled : ℕ → ℕ → ℕ → ℕ → Option Step
spelled kind party t destination =
    pick (eqb destination 0) (of_kind kind party t Alice)
    (pick (eqb destination 1) (of_kind kind party t Bob)
    (pick (eqb destination 2) (of_kind kind party t Contract)
    (pick (eqb destination 3) (of_kind kind party t Carol)
    None)))

-- 11 "step field out of range for its kind"
unfoldable pub range_checked : List ℕ → List ℕ → Option Step → Option Step
range_checked s u (Some x) = pick (fields_right s u x) (Some x) None
range_checked s u None = None

-- "decoded from four bytes": kind, party, transaction, destination, under a sheet and a setup
unfoldable pub decode : List ℕ → List ℕ → ℕ → ℕ → ℕ → ℕ → Option Step
decode s u kind party t destination = range_checked s u (spelled kind party t destination)

-- "4 bytes a step"
unfoldable pub step_bytes : Step → List ℕ
step_bytes (Share party t to) = 1 ∷ party ∷ t ∷ destination_number to ∷ []
step_bytes (Give party i to) = 2 ∷ party ∷ i ∷ destination_number to ∷ []
step_bytes (SendToPool party t to) = 3 ∷ party ∷ t ∷ destination_number to ∷ []
step_bytes (HandToMiner party t to) = 4 ∷ party ∷ t ∷ destination_number to ∷ []
step_bytes (Include party t to) = 5 ∷ party ∷ t ∷ destination_number to ∷ []
step_bytes (Mine party t to) = 6 ∷ party ∷ t ∷ destination_number to ∷ []
step_bytes (Bump party t to) = 7 ∷ party ∷ t ∷ destination_number to ∷ []
