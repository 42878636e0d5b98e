-- The numbers of the SASwap sheet's signatures and transactions, by document 01's names.
-- Assumes nothing.
use Rattle.std.specs.Prelude.{ℕ}

-- "signature bits 1 sigAlice, 2 sigBob, 4 secretAlice, 8 secretBob": a signature's number is "its bit's place"
abbrev pub sig_alice : ℕ
sig_alice = 0

abbrev pub sig_bob : ℕ
sig_bob = 1

abbrev pub secret_alice : ℕ
secret_alice = 2

abbrev pub secret_bob : ℕ
secret_bob = 3

-- the table's columns "no." and "name"
abbrev pub lock_a : ℕ
lock_a = 0

abbrev pub lock_b : ℕ
lock_b = 1

abbrev pub success : ℕ
success = 2

abbrev pub refund1 : ℕ
refund1 = 3

abbrev pub revoke : ℕ
revoke = 4

abbrev pub refund2 : ℕ
refund2 = 5

abbrev pub timeout : ℕ
timeout = 6

abbrev pub spend_a : ℕ
spend_a = 7

abbrev pub spend_b : ℕ
spend_b = 8

abbrev pub spend_success : ℕ
spend_success = 9

abbrev pub spend_refund1_bob : ℕ
spend_refund1_bob = 10

abbrev pub spend_refund1_alice : ℕ
spend_refund1_alice = 11

abbrev pub spend_revoke : ℕ
spend_revoke = 12

abbrev pub spend_refund2 : ℕ
spend_refund2 = 13

abbrev pub spend_timeout : ℕ
spend_timeout = 14
