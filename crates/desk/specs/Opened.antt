-- From the weights of a tag to the ticket that the counter opens.
-- Assumes nothing.
use Rattle.std.specs.Prelude.{List, ◌≢◌, ◌≡◌, ℕ, ◌+◌, ◌-◌, ◌*◌, ◌≤◌, length, take}
use Rattle.std.specs.Borrow.{Bor}
use Rattle.audit.specs.Desk.{Sizes}
use Rattle.audit.specs.Marks.{weights_of, matrix_of, erased, wrong}
use Rattle.audit.specs.Words.{Message}
use Rattle.counter.specs.Judging.{to_open, to_ask, judge_answer, both_answer}
use Rattle.counter.specs.declared.Settings.{Settings}
use Rattle.definitions.specs.Answers.{valued, read_answer, read_rows, read_scores}
use Rattle.definitions.specs.Code.{codeword}
use Rattle.definitions.specs.Field.{Code}
use Rattle.definitions.specs.Limits.{greatest_level, greatest_limit, greatest_rows}
use Rattle.definitions.specs.Weights.{cost}
use Rattle.opening.specs.Handing.{opened, both_opened}

-- a photograph of the tag of message f, on which each mark is read as one symbol or erased, and the memory that is lent for its list
pub record Photograph (C : Code) (s : Settings) (G : ℕ) (f word rows scores : List ℕ) : Type 0 where
  pub sizes : Sizes C s.n s.k
  pub level : (1 ≤ s.level) × (s.level ≤ greatest_level)
  pub limit : G ≤ greatest_limit
  pub price : cost (matrix_of C s.level word) ≤ G
  pub message : Message C s.k f
  pub marks : length word ≡ s.n
  -- half the distance: an erased mark counts for half a wrong one
  pub worn : 2 * wrong C s.n word (codeword C s.n f) + erased C s.n word ≤ s.n - s.k
  pub rows_room : greatest_rows * s.k ≤ length rows
  pub scores_room : greatest_rows ≤ length scores

-- the rows that are counted, and their scores, as the list leaves them
module _ (C : Code) (s : Settings) (G : ℕ) (word rows scores : List ℕ) where
  abbrev pub rows_listed : List ℕ
  rows_listed =
      take (s.k * (read_answer C s.n s.k s.level G (weights_of C word) rows scores).count)
      (read_rows C s.n s.k s.level G (weights_of C word) rows scores)

  abbrev pub scores_listed : List ℕ
  scores_listed =
      take (read_answer C s.n s.k s.level G (weights_of C word) rows scores).count
      (read_scores C s.n s.k s.level G (weights_of C word) rows scores)

pub record AtTheCounter (C : Code) (s : Settings) : Type 0 where
  -- with a lead of at most L the true ticket is opened, and handed back
  pub opens : (G g : ℕ) (f word rows scores : List ℕ) → Photograph C s G f word rows scores → 1 ≤ g → g ≤ s.level
      → judge_answer C s.k (rows_listed C s G word rows scores) (scores_listed C s G word rows scores) g ≡ valued to_open
  pub hands_back : (G g : ℕ) (f word rows scores : List ℕ) → Photograph C s G f word rows scores → 1 ≤ g → g ≤ s.level
      → (r : Bor (List ℕ)) → r.now ≡ rows_listed C s G word rows scores → (opened C s.k r (scores_listed C s G word rows scores) g).1 ≡ f
  -- two photographs of one tag: it is opened, and handed back where the first list lies; of two tags: a person is asked, whatever the lead
  pub both_open : (G g : ℕ) (f word rows scores other others other_scores : List ℕ) → Photograph C s G f word rows scores
      → Photograph C s G f other others other_scores → 1 ≤ g → g ≤ s.level
      → both_answer C s (rows_listed C s G word rows scores) (scores_listed C s G word rows scores) s (rows_listed C s G other others other_scores)
      (scores_listed C s G other others other_scores) g ≡ valued to_open
  pub both_hands_back : (G g : ℕ) (f word rows scores other others other_scores : List ℕ) → Photograph C s G f word rows scores
      → Photograph C s G f other others other_scores → 1 ≤ g → g ≤ s.level
      → (r o : Bor (List ℕ)) → r.now ≡ rows_listed C s G word rows scores → o.now ≡ rows_listed C s G other others other_scores
      → both_opened C s r (scores_listed C s G word rows scores) s o (scores_listed C s G other others other_scores) g ≡ (r.ref_ptr, f)
  pub both_ask : (G g : ℕ) (f h word rows scores other others other_scores : List ℕ) → f ≢ h → Photograph C s G f word rows scores
      → Photograph C s G h other others other_scores → 1 ≤ g
      → both_answer C s (rows_listed C s G word rows scores) (scores_listed C s G word rows scores) s (rows_listed C s G other others other_scores)
      (scores_listed C s G other others other_scores) g ≡ valued to_ask
