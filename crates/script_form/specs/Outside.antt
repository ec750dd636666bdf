-- What a script says of the outside of a run: its words, its clock, and the calls of its devices
-- that fail.
use Rattle.std.specs.Prelude.{ℕ, List, [], ◌∷◌}
use Rattle.portal_base.specs.Calls.{Calls, next_call}
use Rattle.portal_base.specs.Outside.{rises_by}
use Rattle.portal_model.specs.Opening.{each}
use Rattle.script_form.specs.declared.outside.ToldOutside.{ToldOutside}
use Rattle.script_lines.specs.declared.script.Device.TheVariants.{Tree, Keeper}
use Rattle.script_lines.specs.declared.script.ScriptLine.{ScriptLine}
use Rattle.script_lines.specs.declared.script.ScriptLine.TheVariants.{Fail, Word, Now}

-- ---- what lines say

abbrev pub word_in : ScriptLine → List ℕ
word_in (Word word) = word ∷ []
word_in line = []

-- the call of the tree that a line makes fail
abbrev pub tree_call_in : ScriptLine → List ℕ
tree_call_in (Fail Tree call) = call ∷ []
tree_call_in line = []

-- the keeper's first call is that which loads the records, so its call that changes them for the
-- K-th time is the one behind call K; the numbers of calls stop at the greatest of 64 bits
abbrev pub keeper_call_in : ScriptLine → List ℕ
keeper_call_in (Fail Keeper call) = rises_by call 1 ∷ []
keeper_call_in line = []

-- what a script says of the devices, whose words may stand anywhere
abbrev pub told_of : List ScriptLine → ToldOutside
told_of lines = record {
  words = each word_in lines;
  tree_fails = each tree_call_in lines;
  keeper_fails = each keeper_call_in lines;
}

-- ---- what stands between two uses

-- the words to come, after which only 0 comes; what the clock shows; and the calls of the tree and
-- of the keeper
pub record Outside : Type 0 where
  pub words : List ℕ
  pub clock : ℕ
  pub tree : Calls
  pub keeper : Calls

-- before the first use
abbrev pub outside_of : List ScriptLine → Outside
outside_of lines = record {
  words = each word_in lines;
  clock = 0;
  tree = record { made = 0; failing = each tree_call_in lines };
  keeper = record { made = 0; failing = each keeper_call_in lines };
}

-- the word that is drawn next, and the words that are left then
abbrev pub drawn : List ℕ → ℕ × List ℕ
drawn [] = (0, [])
drawn (word ∷ words) = (word, words)

-- a word is drawn, the tree is called, or the keeper is
abbrev pub after_word : Outside → Outside
after_word o = record o { words = (drawn o.words).1 }

abbrev pub after_tree_call : Outside → Outside
after_tree_call o = record o { tree = next_call o.tree }

abbrev pub after_keeper_call : Outside → Outside
after_keeper_call o = record o { keeper = next_call o.keeper }

-- a line is run
abbrev pub after_line : Outside → ScriptLine → Outside
after_line o (Now moment) = record o { clock = moment }
after_line o line = o
