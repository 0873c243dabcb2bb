-- The limits of document 01, "Most allowed".
use Rattle.std.specs.Prelude.{ℕ}

abbrev pub max_bytes : ℕ
max_bytes = 65536

abbrev pub max_nodes : ℕ
max_nodes = 1024

abbrev pub max_links : ℕ
max_links = 256

abbrev pub max_types : ℕ
max_types = 32

abbrev pub max_langs : ℕ
max_langs = 32

abbrev pub max_shapes : ℕ
max_shapes = 64

abbrev pub max_rules : ℕ
max_rules = 32

abbrev pub max_facts : ℕ
max_facts = 4096

abbrev pub max_forms : ℕ
max_forms = 112

abbrev pub max_paths : ℕ
max_paths = 128

abbrev pub max_items : ℕ
max_items = 128

-- of LO and HI
abbrev pub max_count : ℕ
max_count = 1024

-- brackets open together
abbrev pub max_depth : ℕ
max_depth = 32

-- bytes of a name
abbrev pub max_name : ℕ
max_name = 31

-- bytes in which a name is stored: the name, then zeros
abbrev pub name_bytes : ℕ
name_bytes = 32

abbrev pub max_steps : ℕ
max_steps = 512
