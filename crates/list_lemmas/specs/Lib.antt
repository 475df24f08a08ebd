pub mod BytesOrder
