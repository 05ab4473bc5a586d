-- A text has one row of tokens.
use Rattle.std.proofs.Common.{◌≡◌, ◌≢◌, ℕ, List, Result, Ok, Err}
use Rattle.og_lex.specs.declared.token.Token.{Token}
use Rattle.og_lex.specs.declared.fault.LexFault.{LexFault}
use Rattle.og_lex.specs.declared.fault.LexFault.TheVariants.{Memory}
use Rattle.og_lex.specs.Spelling.{AreTokens, Lexed}

-- what the tokens' own crate says: a text has at most one row of tokens or first fault
abbrev pub OneLexing : Type 0
OneLexing = (text : List ℕ) (one other : Result (List Token) LexFault) → Lexed text one → Lexed text other → one ≢ Err Memory → other ≢ Err Memory → one ≡ other

pub same_tokens : OneLexing → (text : List ℕ) (ts us : List Token) → AreTokens text ts → AreTokens text us → ts ≡ us
same_tokens law text ts us are_ts are_us =
    let same : Ok ts ≡ Ok us = law text (Ok ts) (Ok us) are_ts are_us (λ e. absurd (cc)) (λ e. absurd (cc)) in cc
