-- The numbers of the nodes of the file view: view * 2^36 + kind * 2^32 + id.
use Rattle.std.specs.Prelude.{ℕ, ◌+◌, ◌*◌, ◌/◌, ◌%◌, ◌^◌}

abbrev pub view_of_node : ℕ → ℕ
view_of_node node = node / 2 ^ 36

abbrev pub kind_of_node : ℕ → ℕ
kind_of_node node = node / 2 ^ 32 % 16

abbrev pub id_of_node : ℕ → ℕ
id_of_node node = node % 2 ^ 32

abbrev pub node_number : ℕ → ℕ → ℕ → ℕ
node_number view kind id = view * 2 ^ 36 + (kind * 2 ^ 32 + id)
