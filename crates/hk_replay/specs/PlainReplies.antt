-- What the lines of a log that end a call say, beside the heap that never collects.
use Rattle.std.specs.Prelude.{◌≡◌, ℕ, List, [], ◌∷◌, ◌++◌, Option, Some, None}
use Rattle.hk_words.specs.declared.call.Reply.{Reply}
use Rattle.hk_words.specs.declared.call.Reply.TheVariants as reply
use Rattle.hk_words.specs.declared.geometry.Geometry.{Geometry}
use Rattle.hk_model.specs.Heap.{opening_of}
use Rattle.hk_model.specs.History.{Entry, History, after, of_seat}
use Rattle.hk_model.specs.Replies.{reply_of}
use Rattle.hk_core.specs.State.{flight_of}
use Rattle.hk_replay.specs.declared.log_line.Ending.{Ending}
use Rattle.hk_replay.specs.declared.log_line.Ending.TheVariants as ending
use Rattle.hk_replay.specs.declared.log_line.LogLine.{LogLine}
use Rattle.hk_replay.specs.declared.log_line.LogLine.TheVariants as line
use Rattle.hk_replay.specs.Answers.{run_of}

-- the reply that an ending says; none where there was no room
abbrev pub reply_said : Ending → Option Reply
reply_said ending.Unit = Some reply.Unit
reply_said (ending.Num n) = Some (reply.Num n)
reply_said (ending.Full words) = None

-- A call of a seat ends after these lines. Its entry is the seat's last one in the history, of the call that the seat has in
-- flight, and the reply is the one that the plain heap gives after the entries before it
pub record IsReplyOfPlain (g : Geometry) (before : List LogLine) (seat : ℕ) (end : Ending) (said : Reply) : Type 0 where
  pub earlier : History
  pub entry : Entry
  pub later : History
  pub parts : (run_of g (before ++ line.End seat end ∷ [])).history ≡ earlier ++ entry ∷ later
  pub last : of_seat later seat ≡ []
  pub seat_is : entry.seat ≡ seat
  pub call_is : entry.call ≡ (flight_of (run_of g before).core.flights seat).call
  pub reply_is : entry.reply ≡ said
  pub plain : said ≡ reply_of (after (opening_of g) earlier) seat entry.call

-- so is each reply that lines say
abbrev pub AreRepliesOfPlain : Geometry → List LogLine → Type 0
AreRepliesOfPlain g lines = (before after' : List LogLine) (seat : ℕ) (end : Ending) (said : Reply)
    → lines ≡ before ++ line.End seat end ∷ after' → reply_said end ≡ Some said → IsReplyOfPlain g before seat end said
