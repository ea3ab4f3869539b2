-- Answers in numbers.
use Rattle.std.specs.Prelude.{◌≡◌, ℕ, Bool, cond, ◌&&◌, List, [], ◌∷◌, ◌++◌, map, length, drop, Ok, Err, vec_items, ◌==◌, nat_le}
use Rattle.std.specs.List.{flat_map}
use Rattle.deck.specs.Tape.{TapeSet}
use Rattle.image.specs.Stored.{Verdict}
use Rattle.image.specs.Strip as strips
use Rattle.image.specs.Indexed as indices
use Rattle.reader.specs.Answers.{Told, summary, code, delivered, counted, refused}
use Rattle.survey.specs.Surveys.{Fault}
use Rattle.witness.specs.Replies.{Reply, replies}
use Rattle.bridge.specs.Asks.{question}
use Rattle.bridge.specs.declared.ask.Ask.{Ask}
use Rattle.bridge.specs.declared.words.Told as outs

-- An answer is six words: which one it is, and its numbers.
abbrev pub one : ℕ → ℕ → List ℕ
one which n = which ∷ n ∷ 0 ∷ 0 ∷ 0 ∷ 0 ∷ []

abbrev pub fault_words : Fault → List ℕ
fault_words (n, layer, reel, block) = 5 ∷ n ∷ layer ∷ reel ∷ block ∷ 0 ∷ []

abbrev pub six : Told → List ℕ
six (summary sensor mission correction bands lines) = 1 ∷ sensor ∷ mission ∷ correction ∷ bands ∷ lines ∷ []
six (code c) = one 2 c
six (delivered n) = one 3 n
six (counted n) = one 4 n
six (refused f) = fault_words f

-- An image that does not open: its refusal's number and place.
abbrev pub unopened : ℕ → ℕ → List ℕ
unopened n place = 6 ∷ n ∷ place ∷ 0 ∷ 0 ∷ 0 ∷ []

-- The words of some answers, and the bytes of their buffers, one behind the other.
abbrev pub all_words : List Reply → List ℕ
all_words rs = flat_map (λ r. six r.0) rs

abbrev pub all_buffers : List Reply → List ℕ
all_buffers rs = flat_map (λ r. r.1) rs

-- What goes over the border: words and bytes.
pub record Sent : Type 0 where
  pub words : List ℕ
  pub buffers : List ℕ

abbrev pub sending : outs.Told → Sent
sending t = record { words = vec_items t.words; buffers = vec_items t.buffers }

abbrev pub sent : List Reply → Sent
sent rs = record { words = all_words rs; buffers = all_buffers rs }

-- What bytes are as an image: a strip for form 0, an indexed image for any other.
abbrev pub opened : ℕ → List ℕ → Verdict TapeSet
opened form bytes = cond (form == 0) (strips.verdict bytes) (indices.verdict bytes)

abbrev pub sent_by : List Ask → Verdict TapeSet → Sent
sent_by asks (Ok set) = sent (replies set (map question asks))
sent_by asks (Err (n, place)) = record { words = unopened n place; buffers = [] }

-- The answers of a fresh reader over an image, or the image's refusal.
abbrev pub played : ℕ → List ℕ → List Ask → Sent
played form bytes asks = sent_by asks (opened form bytes)

-- Some values at the front of others.
abbrev pub front : List ℕ → List ℕ → List ℕ
front xs ys = xs ++ drop (length xs) ys

abbrev pub fits : Sent → List ℕ → List ℕ → Bool
fits s words buffers = nat_le (length s.words) (length words) && nat_le (length s.buffers) (length buffers)

-- Everything was put at the front of the caller's words and bytes, if it fits.
pub record Put (s : Sent) (words buffers words' buffers' : List ℕ) (n : ℕ) : Type 0 where
  pub count : n ≡ cond (fits s words buffers) (length s.words) 0
  pub all_words : words' ≡ cond (fits s words buffers) (front s.words words) words
  pub all_buffers : buffers' ≡ cond (fits s words buffers) (front s.buffers buffers) buffers
