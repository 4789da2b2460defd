-- Gates over parts, by the connectives: what the code computes; that it is what the inputs force is shown of it.
use Rattle.coco_base.specs.declared.cell.Kind.{Kind}
use Rattle.coco_base.specs.declared.cell.Kind.TheVariants.{Buf, Not, And, Nand, Or, Nor, Xor, Xnor, AndNot, OrNot, Mux, Nmux, Aoi3, Oai3, Aoi4, Oai4}
use Rattle.coco_base.specs.declared.cell.Part.{Part}
use Rattle.coco_base.specs.declared.cell.Part.TheVariants.{Zero, One, Vary}
use Rattle.coco_model.specs.Calm.{both}

abbrev pub not_part : Part → Part
not_part Zero = One
not_part One = Zero
not_part Vary = Vary

abbrev pub and_part : Part → Part → Part
and_part Zero b = Zero
and_part One b = b
and_part Vary Zero = Zero
and_part Vary One = Vary
and_part Vary Vary = Vary

abbrev pub or_part : Part → Part → Part
or_part One b = One
or_part Zero b = b
or_part Vary One = One
or_part Vary Zero = Vary
or_part Vary Vary = Vary

abbrev pub xor_part : Part → Part → Part
xor_part Zero b = b
xor_part One b = not_part b
xor_part Vary b = Vary

-- a multiplexer whose data inputs are known to be equal is known, whatever selects
abbrev pub mux_part : Part → Part → Part → Part
mux_part a b Zero = a
mux_part a b One = b
mux_part a b Vary = both a b

abbrev pub ternary : Kind → Part → Part → Part → Part → Part
ternary Buf a b c d = a
ternary Not a b c d = not_part a
ternary And a b c d = and_part a b
ternary Nand a b c d = not_part (and_part a b)
ternary Or a b c d = or_part a b
ternary Nor a b c d = not_part (or_part a b)
ternary Xor a b c d = xor_part a b
ternary Xnor a b c d = not_part (xor_part a b)
ternary AndNot a b c d = and_part a (not_part b)
ternary OrNot a b c d = or_part a (not_part b)
ternary Mux a b s d = mux_part a b s
ternary Nmux a b s d = not_part (mux_part a b s)
ternary Aoi3 a b c d = not_part (or_part (and_part a b) c)
ternary Oai3 a b c d = not_part (and_part (or_part a b) c)
ternary Aoi4 a b c d = not_part (or_part (and_part a b) (and_part c d))
ternary Oai4 a b c d = not_part (and_part (or_part a b) (or_part c d))
