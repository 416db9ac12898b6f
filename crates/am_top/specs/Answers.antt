-- What an answer says, and what is asked of it: chains of steps, each of which goes on or refuses.
use Rattle.std.specs.Prelude.{◌≡◌, ◌≤◌, ◌<◌, ◌⊎◌, ℕ, Bool, true, false, Option, List, [], length}
use Rattle.am_outside.specs.Causes.{Rose}
use Rattle.am_outside.specs.Growth.{Grows, GrowsByPart, WhereTold}
use Rattle.am_top.specs.declared.answer.Answer.{Answer}
use Rattle.am_top.specs.declared.answer.Answer.TheVariants.{Text, Usage, Refused, Unread, NoMemory}
use Rattle.am_top.specs.declared.answer.File.{File}
use Rattle.am_top.specs.declared.answer.Refusal.{Refusal}
use Rattle.am_top.specs.declared.answer.Refusal.TheVariants as refusal
use Rattle.am_top.specs.declared.status.Status.{Status}
use Rattle.am_top.specs.declared.status.Status.TheVariants as status
use Rattle.am_top.specs.Messages.{usage, cannot_read, cannot_write, no_memory_text, longer}

-- ---- what an answer says

abbrev pub status_at : Refusal → Status
status_at refusal.File = status.File
status_at refusal.Text = status.Refused
status_at refusal.Spent = status.Spent
status_at refusal.Exhausted = status.Exhausted
status_at refusal.Contradiction = status.Contradiction
status_at refusal.Long = status.Long

-- the status of an answer
abbrev pub status_of : Answer → Status
status_of (Text text) = status.Ok
status_of Usage = status.Usage
status_of (Refused r message) = status_at r
status_of (Unread f) = status.Read
status_of NoMemory = status.NoMemory

-- the answer is a text
abbrev pub is_text_answer : Answer → Bool
is_text_answer (Text text) = true
is_text_answer Usage = false
is_text_answer (Refused r message) = false
is_text_answer (Unread f) = false
is_text_answer NoMemory = false

-- what an answer puts out
abbrev pub text_of : Answer → List ℕ
text_of (Text text) = text.items
text_of Usage = []
text_of (Refused r message) = []
text_of (Unread f) = []
text_of NoMemory = []

-- what an answer says where messages go
abbrev pub message_of : Answer → List ℕ
message_of (Text text) = []
message_of Usage = usage
message_of (Refused r message) = message.items
message_of (Unread f) = cannot_read f
message_of NoMemory = no_memory_text

-- what it says where a put failed: of its text, or of its message itself
abbrev pub message_at_fault : Answer → List ℕ
message_at_fault (Text text) = cannot_write
message_at_fault Usage = message_of Usage
message_at_fault (Refused r message) = message_of (Refused r message)
message_at_fault (Unread f) = message_of (Unread f)
message_at_fault NoMemory = message_of NoMemory

-- ---- chains of steps

-- A step goes on with a value, of which the rest of the chain speaks, or it refuses.
abbrev pub Then : {A : Type 0} → (A → Type 0) → (Answer → Type 0) → (A → Answer → Type 0) → Answer → Type 0
Then goes refuses next answer = refuses answer ⊎ ((x : _) × goes x × next x answer)

-- A test lets the chain go on where it holds, and refuses else.
abbrev pub Where : Type 0 → (Answer → Type 0) → (Answer → Type 0) → Answer → Type 0
Where holds refuses next answer = refuses answer ⊎ (holds × next answer)

-- the answer is a text of which this holds
abbrev pub Prints : (List ℕ → Type 0) → Answer → Type 0
Prints Is (Text text) = Is text.items
Prints Is Usage = ⊥
Prints Is (Refused r message) = ⊥
Prints Is (Unread f) = ⊥
Prints Is NoMemory = ⊥

-- the answer is this refusal with this message
abbrev pub Refuses : Refusal → List ℕ → Answer → Type 0
Refuses r says (Text text) = ⊥
Refuses r says Usage = ⊥
Refuses r says (Refused s message) = (s ≡ r) × (message.items ≡ says)
Refuses r says (Unread f) = ⊥
Refuses r says NoMemory = ⊥

-- the answer is that the file can't be read
abbrev pub CannotRead : File → Answer → Type 0
CannotRead f (Text text) = ⊥
CannotRead f Usage = ⊥
CannotRead f (Refused r message) = ⊥
CannotRead f (Unread g) = g ≡ f
CannotRead f NoMemory = ⊥

-- the answer is that of the chain; want of memory is free
abbrev pub IsAnswerOf : (Answer → Type 0) → Answer → Type 0
IsAnswerOf chain answer = (answer ≡ NoMemory) ⊎ chain answer

-- ---- files

-- the bytes of a file, which are those that are told of it, where they are told, and at most as many as the limit
pub record AreBytes (limit : ℕ) (told : Option (List ℕ)) (bytes : List ℕ) : Type 0 where
  pub same : WhereTold told (λ b. bytes ≡ b)
  pub short : length bytes ≤ limit

-- a file that isn't sure can't be read, or the file is longer than the limit
abbrev pub NotLoaded : File → ℕ → Option (List ℕ) → Type 0 → Answer → Type 0
NotLoaded f limit told sure answer = (CannotRead f answer × (sure → ⊥)) ⊎ (Refuses refusal.File (longer f limit) answer × WhereTold told (λ b. limit < length b))

-- the answer is that some file can't be read
abbrev pub IsUnread : Answer → Type 0
IsUnread (Text text) = ⊥
IsUnread Usage = ⊥
IsUnread (Refused r message) = ⊥
IsUnread (Unread f) = Unit {0}
IsUnread NoMemory = ⊥

-- The count of the library's faults rose where a file can't be read, and else it is what it was.
pub record CountsFaults (unread : Type 0) (old new : ℕ) : Type 0 where
  pub rose : unread → Rose old new
  pub kept : (unread → ⊥) → new ≡ old
  pub later : old ≤ new

-- ---- putting out

-- what a sink holds, where it tells it, and how many faults it had
pub record Page : Type 0 where
  pub held : Option (List ℕ)
  pub faults : ℕ

abbrev pub page : Option (List ℕ) → ℕ → Page
page held faults = record { held = held; faults = faults }

-- A put of the answer failed. Of a text it was the page for texts that failed: it has grown by a part of the text, and the
-- other page by the whole complaint, unless that failed too. Of a message it was the other page: it has grown by a part of
-- the message, and the page for texts is as it was.
abbrev pub Failed : Answer → Page → Page → Page → Page → Type 0
Failed answer out out_new err err_new =
    GrowsByPart out.held out_new.held (text_of answer)
    × GrowsByPart err.held err_new.held (message_at_fault answer)
    × (is_text_answer answer ≡ true → Rose out.faults out_new.faults × ((Rose err.faults err_new.faults → ⊥) → Grows err.held err_new.held (message_at_fault answer)))
    × (is_text_answer answer ≡ false → Rose err.faults err_new.faults × (out_new.held ≡ out.held) × (out_new.faults ≡ out.faults))
