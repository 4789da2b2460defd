-- The types of gate cells, as the Yosys manual names its single-bit gates.
use Rattle.std.specs.Prelude.{ℕ, List, codes}
use Rattle.coco_base.specs.declared.cell.Kind.{Kind}
use Rattle.coco_base.specs.declared.cell.Kind.TheVariants.{Buf, Not, And, Nand, Or, Nor, Xor, Xnor, AndNot, OrNot, Mux, Nmux, Aoi3, Oai3, Aoi4, Oai4}

abbrev pub type_name : Kind → List ℕ
type_name Buf = codes "$_BUF_"
type_name Not = codes "$_NOT_"
type_name And = codes "$_AND_"
type_name Nand = codes "$_NAND_"
type_name Or = codes "$_OR_"
type_name Nor = codes "$_NOR_"
type_name Xor = codes "$_XOR_"
type_name Xnor = codes "$_XNOR_"
type_name AndNot = codes "$_ANDNOT_"
type_name OrNot = codes "$_ORNOT_"
type_name Mux = codes "$_MUX_"
type_name Nmux = codes "$_NMUX_"
type_name Aoi3 = codes "$_AOI3_"
type_name Oai3 = codes "$_OAI3_"
type_name Aoi4 = codes "$_AOI4_"
type_name Oai4 = codes "$_OAI4_"
