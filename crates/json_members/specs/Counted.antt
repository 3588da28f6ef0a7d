-- How many values stand in a value of JSON, itself among them. What is read of one with fewer than 4,294,967,296 has numbers of 32 bits.
use Rattle.std.specs.Prelude.{ℕ, suc, ◌+◌, ◌<◌, ◌^◌}
use Rattle.serde_json.specs.Data.{Data, null, boolean, number, string, array, object, Items, no_items, item, Members, no_members, member as has}

abbrev mutual
  pub values_in : Data → ℕ
  values_in null = 1
  values_in (boolean b) = 1
  values_in (number n) = 1
  values_in (string s) = 1
  values_in (array ds) = suc (values_in_items ds)
  values_in (object ms) = suc (values_in_members ms)

  pub values_in_items : Items → ℕ
  values_in_items no_items = 0
  values_in_items (item d ds) = values_in d + values_in_items ds

  pub values_in_members : Members → ℕ
  values_in_members no_members = 0
  values_in_members (has key d ms) = values_in d + values_in_members ms

-- fewer than 4,294,967,296 values stand in it
abbrev pub IsCountedValue : Data → Type 0
IsCountedValue d = values_in d < 2 ^ 32
