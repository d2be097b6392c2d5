-- What reading a text answers, and what all cells hold then.
use Rattle.std.specs.Prelude.{◌≡◌, ℕ, List, replicate, Ok, Err, Result}
use Rattle.calculus.specs.Meaning.{Meaning}
use Rattle.grammar.specs.declared.rule.TextFault.{TextFault}
use Rattle.grammar.specs.Lawful.{Sizes}
use Rattle.grammar.specs.Outcome.{Reads, Faults}
use Rattle.reading.specs.Laid.{padded, all_codes, running}
use Rattle.text.specs.Cells.{meant}
use Rattle.text.specs.declared.outline.Outline.{Outline}

-- the text reads as a formula; the outline and the cells hold that formula, in codes and running counts, then zeros
pub record Holds (S : Sizes) (text : List ℕ) (o : Outline) (literals ends : List ℕ) : Type 0 where
  pub formula : Meaning
  pub reads : Reads S text formula
  pub held : meant o literals ends ≡ formula
  pub codes : literals ≡ padded S.cells (all_codes formula.clauses)
  pub counts : ends ≡ padded S.ends (running 0 formula.clauses)

-- the text has this first fault; all cells hold 0
pub record Refused (S : Sizes) (text : List ℕ) (f : TextFault) (literals ends : List ℕ) : Type 0 where
  pub faults : Faults S text f.rule f.byte
  pub no_codes : literals ≡ replicate S.cells 0
  pub no_counts : ends ≡ replicate S.ends 0

abbrev pub Filled : Sizes → List ℕ → Result Outline TextFault → List ℕ → List ℕ → Type 0
Filled S text (Ok o) literals ends = Holds S text o literals ends
Filled S text (Err f) literals ends = Refused S text f literals ends
