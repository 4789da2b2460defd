-- How much of a program the two regions of memory hold.
use Rattle.std.specs.Prelude.{◌≡◌, ℕ, ◌≤◌, length}
use Rattle.rv_asm.specs.declared.image.Image.{Image}

-- the most words of the text, and the most bytes of the data
abbrev pub most_cells : ℕ
most_cells = 4096

-- the most words of the data
abbrev pub most_data_words : ℕ
most_data_words = 1024

-- the words of an image lie within the regions, and each word of its text has a line
pub record IsWithinRegions (image : Image) : Type 0 where
  pub text : length image.text ≤ most_cells
  pub lines : length image.lines ≡ length image.text
  pub values : length image.values ≤ most_data_words
