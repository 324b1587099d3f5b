-- The measure of recursions over forms.
use Rattle.std.specs.Prelude.{ℕ, ◌+◌}
use Rattle.alg_horner.specs.Form.{Form}

-- the number of nodes
abbrev pub size : Form → ℕ
size (Form.Const c) = 1
size (Form.Skip j p) = 1 + size p
size (Form.Mix p i q) = 1 + size p + size q
