-- The items that clients have sent so far. No public clause cites this module.
--     sent_so_far sent client    how many the map has of a client, and none where it doesn't have the client
use Rattle.std.specs.Prelude.{ℕ, unwrap_or}
use Rattle.std.specs.BTreeMap.{BTreeMap, get}
use Rattle.std.specs.Ordering.{nat_cmp}

abbrev pub sent_so_far : BTreeMap ℕ ℕ → ℕ → ℕ
sent_so_far sent client = unwrap_or (get nat_cmp sent client) 0
