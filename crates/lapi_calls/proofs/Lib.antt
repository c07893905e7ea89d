pub mod CallLaws
pub mod HeadLaws
pub mod PlainLaws
pub mod ReasonLaws
pub mod SettingLaws
pub mod Words
