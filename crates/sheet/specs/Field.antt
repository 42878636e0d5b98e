-- The fields of a sheet, in the order of document 01's first section. A sheet is a list of bytes.
-- Assumes nothing.
use Rattle.std.specs.Prelude.{ℕ, ◌+◌, ◌*◌, ◌-◌, ◌%◌, ◌≤◌, ◌≡◌, Bool, not, ◌&&◌, List, eqb, ltb, length, get_or}
use Rattle.laws.specs.Booleans.{pick}

-- the byte at place i, 0 past the end
abbrev pub byte : List ℕ → ℕ → ℕ
byte s i = get_or s i 0

-- the number of parties: Alice and Bob. Document 02, Slip 10: "A first byte of 128 or more .. announces a sheet with a third start mask": with Carol
unfoldable pub parties : List ℕ → ℕ
parties s = pick (ltb (byte s 0) 128) 2 3

-- "byte 0 n transactions"; Slip 10: "A first byte of 128 or more is 128 + n"
unfoldable pub count : List ℕ → ℕ
count s = byte s 0 % 128

-- where the two parallel arrays start, behind the head: "Length is exactly 5 + 6n"; Slip 10: "its length is 6 + 6n"
unfoldable pub arrays : List ℕ → ℕ
arrays s = 3 + parties s

-- "byte 1 s signatures"
abbrev pub signatures : List ℕ → ℕ
signatures s = byte s 1

-- "byte 2 the mask of those that are secrets"
abbrev pub secrets : List ℕ → ℕ
secrets s = byte s 2

-- "party (0 Alice, 1 Bob, 2 miner)"; Slip 10: "Carol is party 3"
abbrev pub miner : ℕ
miner = 2

-- a party's place among the sheet's, by its number: Alice's is 0, Bob's 1, Carol's 2
unfoldable pub place : ℕ → ℕ
place party = pick (ltb party miner) party (party - 1)

-- the number of the party in a place
unfoldable pub party_at : ℕ → ℕ
party_at k = pick (ltb k miner) k (k + 1)

-- the number is one of the sheet's parties', not the miner's and, of a destination, not the contract's
unfoldable pub is_party : List ℕ → ℕ → Bool
is_party s party = not (eqb party miner) && ltb (place party) (parties s)

-- "bytes 3 and 4 the masks held at the start by Alice and Bob"; Slip 10: "a third start mask after Bob's": by place
abbrev pub start_mask : List ℕ → ℕ → ℕ
start_mask s k = byte s (3 + k)

-- the same by party number, 0 for any other number
unfoldable pub start_keys : List ℕ → ℕ → ℕ
start_keys s party = pick (is_party s party) (start_mask s (place party)) 0

-- "The first has 4 bytes for each transaction": byte k of transaction t's four
unfoldable pub entry : List ℕ → ℕ → ℕ → ℕ
entry s t k = byte s (arrays s + 4 * t + k)

-- "The second has 2 bytes": byte k of transaction t's two
unfoldable pub lock_pair : List ℕ → ℕ → ℕ → ℕ
lock_pair s t k = byte s (arrays s + 4 * count s + 2 * t + k)

-- "parent (a lower number, or 255 for a coin's opening)"
abbrev pub parent : List ℕ → ℕ → ℕ
parent s t = entry s t 0

-- "payees (1 Alice, 2 Bob, 3 either, 0 a contract transaction)"; Slip 10: "Carol is .. payee bit 4"
abbrev pub payees : List ℕ → ℕ → ℕ
payees s t = entry s t 1

-- "mask of required signatures"
abbrev pub required : List ℕ → ℕ → ℕ
required s t = entry s t 2

-- "veil (1: sending exposes no signature; else 0)"
abbrev pub veil : List ℕ → ℕ → ℕ
veil s t = entry s t 3

-- "lock type (0 none, 1 absolute, 2 since the parent)"
abbrev pub lock_type : List ℕ → ℕ → ℕ
lock_type s t = lock_pair s t 0

-- "and days (0 for type 0, else 1 to 255)"
abbrev pub days : List ℕ → ℕ → ℕ
days s t = lock_pair s t 1

-- "255 for a coin's opening"
unfoldable pub opening : List ℕ → ℕ → Bool
opening s t = eqb (parent s t) 255

-- a sheet long enough for its own sizes
pub record Sized (s : List ℕ) : Type 0 where
  pub few : count s ≤ 32
  pub head : 5 ≤ arrays s
  pub size : length s ≡ arrays s + 6 * count s

-- a sheet's bytes, as many as its head says
pub record Whole : Type 0 where
  pub bytes : List ℕ
  pub sized : Sized bytes
