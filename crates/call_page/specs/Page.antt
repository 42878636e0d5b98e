-- The page for the wall: document 02, Slip 2. It "lays the report out on lines".
-- Assumes nothing.
use Rattle.std.specs.Prelude.{ℕ, zero, suc, List, [], ◌∷◌, eqb, get_or}
use Rattle.laws.specs.Booleans.{pick}
use Rattle.laws.specs.Gather.{gather}
use Rattle.sheet.specs.Field.{count}
use Rattle.sheet.specs.LockHeight.{never}
use Rattle.slots.specs.Destination.{alice, bob, carol, contract}
use Rattle.position.specs.Play.{run}
use Rattle.position.specs.Printed.{printed_line}
use Rattle.position.specs.Answers.{Written, pass_on}
use Rattle.call_page.specs.Line.{digits, line}

-- "Alice, Bob, contract or a dash"
abbrev pub alice_text : List ℕ
alice_text = 65 ∷ 108 ∷ 105 ∷ 99 ∷ 101 ∷ []

abbrev pub bob_text : List ℕ
bob_text = 66 ∷ 111 ∷ 98 ∷ []

-- document 02, Slip 10: "on the page she is Carol"
abbrev pub carol_text : List ℕ
carol_text = 67 ∷ 97 ∷ 114 ∷ 111 ∷ 108 ∷ []

abbrev pub contract_text : List ℕ
contract_text = 99 ∷ 111 ∷ 110 ∷ 116 ∷ 114 ∷ 97 ∷ 99 ∷ 116 ∷ []

abbrev pub dash_text : List ℕ
dash_text = 45 ∷ []

-- "payee .. as Alice, Bob, contract or a dash": the dash stands for an unconfirmed one
unfoldable pub payee_text : ℕ → List ℕ
payee_text payee =
    pick (eqb payee alice) alice_text
    (pick (eqb payee bob) bob_text
    (pick (eqb payee contract) contract_text
    (pick (eqb payee carol) carol_text dash_text)))

-- "printed as never"
abbrev pub never_text : List ℕ
never_text = 110 ∷ 101 ∷ 118 ∷ 101 ∷ 114 ∷ []

-- ""Never" is printed as never."
unfoldable pub height_text : ℕ → List ℕ
height_text height = pick (eqb height never) never_text (digits height)

-- "The header has no, st, payee, block, lock height and deadline"
abbrev pub header : List (List ℕ)
header =
    (110 ∷ 111 ∷ [])
    ∷ (115 ∷ 116 ∷ [])
    ∷ (112 ∷ 97 ∷ 121 ∷ 101 ∷ 101 ∷ [])
    ∷ (98 ∷ 108 ∷ 111 ∷ 99 ∷ 107 ∷ [])
    ∷ (108 ∷ 111 ∷ 99 ∷ 107 ∷ 32 ∷ 104 ∷ 101 ∷ 105 ∷ 103 ∷ 104 ∷ 116 ∷ [])
    ∷ (100 ∷ 101 ∷ 97 ∷ 100 ∷ 108 ∷ 105 ∷ 110 ∷ 101 ∷ [])
    ∷ []

-- "Columns: number .., status .., payee .., block .., lock height .., deadline", of a report's values in this order
unfoldable pub texts : List ℕ → List (List ℕ)
texts values =
    digits (get_or values 0 0)
    ∷ digits (get_or values 1 0)
    ∷ payee_text (get_or values 2 0)
    ∷ digits (get_or values 3 0)
    ∷ height_text (get_or values 4 0)
    ∷ height_text (get_or values 5 0)
    ∷ []

-- "a header, then one line for each transaction"
unfoldable pub line_texts : (ℕ → List ℕ) → ℕ → List (List ℕ)
line_texts values zero = header
line_texts values (suc t) = texts (values t)

-- the page of n transactions, where `values t` are those of t in the order of the columns
unfoldable pub page_of : ℕ → (ℕ → List ℕ) → List ℕ
page_of n values = gather (suc n) (λ i. line (line_texts values i))

-- "A further call, with the report's arguments and answers"; "25 when the page doesn't fit the buffer, as for the report." Slip 9: "the page .. keep[s its] form"
unfoldable pub page_answer : List ℕ → List ℕ → List ℕ → List ℕ → Written
page_answer s u j out =
    let r = run s u j in
    let bytes = page_of (count s) (printed_line s u r.position) in
    pass_on r bytes 0 out
