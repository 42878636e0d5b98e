-- Parties and destinations by number, and the payees of a transaction.
-- Assumes nothing.
use Rattle.std.specs.Prelude.{ℕ, ◌+◌, ◌*◌, Bool, ◌&&◌, List, eqb}
use Rattle.laws.specs.Mask.{bit}
use Rattle.sheet.specs.Field.{place, payees}
pub use Rattle.sheet.specs.Field.{miner, is_party}
use Rattle.slots.specs.declared.Destination.{Destination}
use Rattle.slots.specs.declared.Destination.TheVariants.{Alice, Bob, Contract, Carol}

-- "party (0 Alice, 1 Bob, 2 miner)", "destination (0 Alice, 1 Bob, 2 contract)"
abbrev pub alice : ℕ
alice = 0

abbrev pub bob : ℕ
bob = 1

abbrev pub contract : ℕ
contract = 2

-- document 02, Slip 10: "Carol is party 3 and destination 3"
abbrev pub carol : ℕ
carol = 3

-- "its destination one of three", and Carol: the numbers below this
abbrev pub destinations : ℕ
destinations = 4

-- the place of kind k + 1 with destination d among the kinds and destinations
abbrev pub place_of : ℕ → ℕ → ℕ
place_of k d = destinations * k + d

-- "destination (0 Alice, 1 Bob, 2 contract)"; Slip 10: "Carol is .. destination 3"
unfoldable pub destination_number : Destination → ℕ
destination_number Alice = alice
destination_number Bob = bob
destination_number Contract = contract
destination_number Carol = carol

-- "payees (1 Alice, 2 Bob, 3 either ..", Slip 10: "payee bit 4" for Carol: the number is a party's, and the bit of its place is set
unfoldable pub is_payee : List ℕ → ℕ → ℕ → Bool
is_payee s t party = is_party s party && bit (payees s t) (place party)

-- ".. 0 a contract transaction)"
unfoldable pub is_contract : List ℕ → ℕ → Bool
is_contract s t = eqb (payees s t) 0
