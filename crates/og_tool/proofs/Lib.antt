pub mod HalvesMeet
pub mod LongTexts
pub mod TokenOrder
pub mod OneRow
pub mod OneTree
pub mod OneAnswer
pub mod OneAnswerToWords
