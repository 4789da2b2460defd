-- Which inputs of a gate matter, read off the connectives: what the code computes. That these are the live inputs is
-- shown of it.
use Rattle.std.specs.Prelude.{ℕ, zero, suc, Bool, true, false, ◌&&◌}
use Rattle.coco_base.specs.declared.cell.Kind.{Kind}
use Rattle.coco_base.specs.declared.cell.Kind.TheVariants.{Buf, Not, And, Nand, Or, Nor, Xor, Xnor, AndNot, OrNot, Mux, Nmux, Aoi3, Oai3, Aoi4, Oai4}
use Rattle.coco_base.specs.declared.cell.Part.{Part}
use Rattle.coco_base.specs.declared.cell.Part.TheVariants.{Zero, One, Vary}
use Rattle.coco_model.specs.Calm.{both}
use Rattle.cell_table.specs.Ternary.{and_part, or_part}

abbrev pub varies : Part → Bool
varies Zero = false
varies One = false
varies Vary = true

-- the part leaves 0, or 1, possible
abbrev pub may_be_zero : Part → Bool
may_be_zero Zero = true
may_be_zero One = false
may_be_zero Vary = true

abbrev pub may_be_one : Part → Bool
may_be_one Zero = false
may_be_one One = true
may_be_one Vary = true

-- the output changes with A for some value of the others
abbrev pub first_matters : Kind → Part → Part → Part → Bool
first_matters Buf b c d = true
first_matters Not b c d = true
first_matters And b c d = may_be_one b
first_matters Nand b c d = may_be_one b
first_matters Or b c d = may_be_zero b
first_matters Nor b c d = may_be_zero b
first_matters Xor b c d = true
first_matters Xnor b c d = true
first_matters AndNot b c d = may_be_zero b
first_matters OrNot b c d = may_be_one b
first_matters Mux b s d = may_be_zero s
first_matters Nmux b s d = may_be_zero s
first_matters Aoi3 b c d = may_be_one b && may_be_zero c
first_matters Oai3 b c d = may_be_zero b && may_be_one c
first_matters Aoi4 b c d = may_be_one b && may_be_zero (and_part c d)
first_matters Oai4 b c d = may_be_zero b && may_be_one (or_part c d)

-- the output changes with B for some value of the others
abbrev pub second_matters : Kind → Part → Part → Part → Bool
second_matters Buf a c d = false
second_matters Not a c d = false
second_matters And a c d = may_be_one a
second_matters Nand a c d = may_be_one a
second_matters Or a c d = may_be_zero a
second_matters Nor a c d = may_be_zero a
second_matters Xor a c d = true
second_matters Xnor a c d = true
second_matters AndNot a c d = may_be_one a
second_matters OrNot a c d = may_be_zero a
second_matters Mux a s d = may_be_one s
second_matters Nmux a s d = may_be_one s
second_matters Aoi3 a c d = may_be_one a && may_be_zero c
second_matters Oai3 a c d = may_be_zero a && may_be_one c
second_matters Aoi4 a c d = may_be_one a && may_be_zero (and_part c d)
second_matters Oai4 a c d = may_be_zero a && may_be_one (or_part c d)

-- the output changes with C, or with S of a multiplexer, for some value of the others
abbrev pub third_matters : Kind → Part → Part → Part → Bool
third_matters Buf a b d = false
third_matters Not a b d = false
third_matters And a b d = false
third_matters Nand a b d = false
third_matters Or a b d = false
third_matters Nor a b d = false
third_matters Xor a b d = false
third_matters Xnor a b d = false
third_matters AndNot a b d = false
third_matters OrNot a b d = false
third_matters Mux a b d = varies (both a b)
third_matters Nmux a b d = varies (both a b)
third_matters Aoi3 a b d = may_be_zero (and_part a b)
third_matters Oai3 a b d = may_be_one (or_part a b)
third_matters Aoi4 a b d = may_be_one d && may_be_zero (and_part a b)
third_matters Oai4 a b d = may_be_zero d && may_be_one (or_part a b)

-- the output changes with D for some value of the others
abbrev pub fourth_matters : Kind → Part → Part → Part → Bool
fourth_matters Buf a b c = false
fourth_matters Not a b c = false
fourth_matters And a b c = false
fourth_matters Nand a b c = false
fourth_matters Or a b c = false
fourth_matters Nor a b c = false
fourth_matters Xor a b c = false
fourth_matters Xnor a b c = false
fourth_matters AndNot a b c = false
fourth_matters OrNot a b c = false
fourth_matters Mux a b s = false
fourth_matters Nmux a b s = false
fourth_matters Aoi3 a b c = false
fourth_matters Oai3 a b c = false
fourth_matters Aoi4 a b c = may_be_one c && may_be_zero (and_part a b)
fourth_matters Oai4 a b c = may_be_zero c && may_be_one (or_part a b)

-- the place varies and the output changes with it
abbrev pub matters : Kind → Part → Part → Part → Part → ℕ → Bool
matters kind a b c d zero = varies a && first_matters kind b c d
matters kind a b c d (suc zero) = varies b && second_matters kind a c d
matters kind a b c d (suc (suc zero)) = varies c && third_matters kind a b d
matters kind a b c d (suc (suc (suc zero))) = varies d && fourth_matters kind a b c
matters kind a b c d (suc (suc (suc (suc n)))) = false
