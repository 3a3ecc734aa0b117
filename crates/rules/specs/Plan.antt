-- Which descriptions of a rack are accepted.
use Rattle.std.specs.Prelude.{ℕ, ◌/◌, ◌%◌, ◌^◌, Bool, true, cond, not, ◌&&◌, List, length, Some, None, Option, ◌==◌, nat_le, nat_lt}
use Rattle.std.specs.List.{list_all}
use Rattle.rules.specs.declared.arbiter.Arbiter.{Arbiter}
use Rattle.rules.specs.declared.wiring.Wiring.{Wiring}

-- one of n domains, and not the manager, who is domain 0
abbrev pub ordinary : ℕ → ℕ → Bool
ordinary n x = nat_le 1 x && nat_lt x n

-- domain x is in a set of domains: the bit of weight 2 ^ x is set
abbrev pub holds : ℕ → ℕ → Bool
holds domains x = domains / 2 ^ x % 2 == 1

-- A mailbox: its fixed domain is not the manager; the manager is wired to it, the fixed domain is not, and no domain
-- from n up is.
abbrev pub wiring_ok : ℕ → Wiring → Bool
wiring_ok n w = ordinary n w.fixed && holds w.wired 0 && not (holds w.wired w.fixed) && w.wired / 2 ^ n == 0

abbrev pub wirings_ok : ℕ → List Wiring → Bool
wirings_ok n ws = list_all (wiring_ok n) ws

-- The arbiter that the numbers of a device domain and an untrusted domain tell of: two zeros tell of none.
abbrev pub arbiter_of : ℕ → ℕ → Option Arbiter
arbiter_of device untrusted = cond (device == 0 && untrusted == 0) None (Some (record { device = device; untrusted = untrusted }))

-- An arbiter's domains are two different ones, and neither is the manager. A rack may have no arbiter.
abbrev pub is_apart : ℕ → Arbiter → Bool
is_apart n a = ordinary n a.device && ordinary n a.untrusted && not (a.device == a.untrusted)

abbrev pub arbiter_ok : ℕ → Option Arbiter → Bool
arbiter_ok n None = true
arbiter_ok n (Some a) = is_apart n a

-- 2 to 16 domains, 1 to 8 mailboxes
abbrev pub accepts : ℕ → Option Arbiter → List Wiring → Bool
accepts n arbiter ws = nat_le 2 n && nat_le n 16 && nat_le 1 (length ws) && nat_le (length ws) 8 && arbiter_ok n arbiter && wirings_ok n ws
