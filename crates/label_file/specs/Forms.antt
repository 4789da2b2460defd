-- The table of forms: the first word of a line, and what stands behind it.
use Rattle.std.specs.Prelude.{ℕ, if◌then◌else◌, List, [], ◌∷◌, Option, Some, None, codes}
use Rattle.std.specs.Option.{option_or}
use Rattle.std.specs.Str.{bytes_eq}
use Rattle.label_file.specs.declared.form.Form.{Form}
use Rattle.label_file.specs.declared.form.Form.TheVariants as form
use Rattle.label_file.specs.declared.operand.Operand.{Operand}
use Rattle.label_file.specs.declared.operand.Operand.TheVariants.{Edition, Net, Name, Count, Address, Value, Values}

-- names of labels
abbrev pub naming_forms : List (List ℕ × Form)
naming_forms =
    (codes "version", form.Version)
    ∷ (codes "secret", form.Secret)
    ∷ (codes "mask", form.Mask)
    ∷ (codes "fresh", form.Fresh) ∷ []

-- what bits and memory words start at
abbrev pub value_forms : List (List ℕ × Form)
value_forms =
    (codes "reg", form.Reg)
    ∷ (codes "input", form.Input)
    ∷ (codes "mem", form.Mem)
    ∷ (codes "leaf", form.Leaf) ∷ []

-- what nets are for
abbrev pub net_forms : List (List ℕ × Form)
net_forms =
    (codes "echo", form.Echo)
    ∷ (codes "clock", form.Clock)
    ∷ (codes "imem", form.Imem)
    ∷ (codes "dmem", form.Dmem)
    ∷ (codes "control", form.Control)
    ∷ (codes "pc", form.Pc) ∷ []

-- the form of a word in a table
abbrev pub form_in : List (List ℕ × Form) → List ℕ → Option Form
form_in [] word = None
form_in (row ∷ rows) word = if bytes_eq row.0 word then Some row.1 else form_in rows word

-- the form of the lines that begin with a word
unfoldable pub form_of : List ℕ → Option Form
form_of word = option_or (option_or (form_in naming_forms word) (form_in value_forms word)) (form_in net_forms word)

abbrev pub operands_of : Form → List Operand
operands_of form.Version = Edition ∷ []
operands_of form.Secret = Name ∷ Count ∷ Count ∷ []
operands_of form.Mask = Name ∷ Count ∷ []
operands_of form.Fresh = Net ∷ Name ∷ []
operands_of form.Reg = Net ∷ Value ∷ []
operands_of form.Input = Net ∷ Values ∷ []
operands_of form.Mem = Address ∷ Value ∷ []
operands_of form.Leaf = Address ∷ []
operands_of form.Echo = Net ∷ Net ∷ []
operands_of form.Clock = Net ∷ []
operands_of form.Imem = Net ∷ Net ∷ Net ∷ []
operands_of form.Dmem = Net ∷ Net ∷ Net ∷ Net ∷ Net ∷ Net ∷ []
operands_of form.Control = Net ∷ []
operands_of form.Pc = Net ∷ []
