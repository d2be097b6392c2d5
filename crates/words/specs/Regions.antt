-- The code's regions as those of the words' definition.
use Rattle.words.specs.Words as words
use Rattle.words.specs.declared.comments.Region.{Region}
use Rattle.words.specs.declared.comments.Region.TheVariants.{LineStart, Indented, Comment, Body}

abbrev pub region_of : Region → words.Region
region_of LineStart = words.line_start
region_of Indented = words.indented
region_of Comment = words.comment
region_of Body = words.body
