pub mod PutElements
pub mod PutLines
pub mod PutOneElement
